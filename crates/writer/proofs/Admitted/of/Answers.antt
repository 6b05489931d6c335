-- `writer::Admitted::of` meets its contract, by what the test of the contents tells.
-- Assumes nothing.
use mathlib.Core.Path.{sym}
use borrow.Author.Rules.{rules}
use Rattle.writer.proofs.Laws.Answers.{told_none, lent_told, lent_refused}
use Rattle.writer.proofs.Admitted.of.Goals as goal

pub returns-in_err-refused : goal.returns-in_err-refused
returns-in_err-refused c = rw (← lent_refused c.args.m c.args.text.now c.args.entries.now _ (sym c.in_err-refused.ensures)) (search rules)

pub invariant_of-result : goal.invariant_of-result
invariant_of-result c = told_none _ (sym c.in_ok-refused.ensures)

pub returns : goal.returns
returns c = lent_told _ _ _ _ (sym c.in_ok-refused.ensures)
