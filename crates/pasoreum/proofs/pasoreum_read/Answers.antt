-- `pasoreum::pasoreum_read` meets its contract: the reading for the kind that the number names.
-- Assumes nothing.
use mathlib.Core.Path.{refl, sym, ◌∙◌}
use borrow.Author.Tests.{lt-ltb, le-ltb}
use Rattle.pasoreum.proofs.Laws.{read_as, kept}
use Rattle.pasoreum.proofs.pasoreum_read.Goals as goal

pub returns-then-answer-lt20 : goal.returns-then-answer-lt20
returns-then-answer-lt20 c = read_as (sym c.kind_of.ensures ∙ c.in-Some.is) (lt-ltb _ _ c.if-answer-lt20.true) _ c.args.frame.now _ _ _ _ _ _ (kept 66 c.args.«data».now c.args.entries.now c.args.answer.now)

pub returns-else-answer-lt20 : goal.returns-else-answer-lt20
returns-else-answer-lt20 c =
    rw c.told.ensures (read_as (sym c.kind_of.ensures ∙ c.in-Some.is) (le-ltb _ _ c.if-answer-lt20.false) _ _ _ _ _ _ _ _ c.read_for.ensures)

pub returns-in-None : goal.returns-in-None
returns-in-None c = read_as (sym c.kind_of.ensures ∙ c.in-None.is) refl _ c.args.frame.now _ _ _ _ _ _ (kept 65 c.args.«data».now c.args.entries.now c.args.answer.now)
