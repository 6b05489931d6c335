-- `writer::write_message` meets its contract, by what the test of the contents tells.
-- Assumes nothing.
use mathlib.Core.Path.{refl}
use borrow.Author.Rules.{rules}
use Rattle.writer.proofs.Laws.Whole.{channels_fit}
use Rattle.writer.proofs.Laws.Answers.{lent_none, lent_some, bytes_all, write_frame, write_refused}
use Rattle.writer.proofs.write_message.Goals as goal

pub returns-in_err-of : goal.returns-in_err-of
returns-in_err-of c =
    rw (write_refused c.args.device c.args.m c.args.text.now c.args.entries.now _ (lent_some _ _ _ _ c.in_err-of.ensures))
    (search rules, refl)

pub returns : goal.returns
returns c =
    let a = lent_none c.args.m c.args.text.now c.args.entries.now _ c.in_ok-of.ensures in
    rw (write_frame c.args.device c.args.m c.args.text.now c.args.entries.now a.0 (bytes_all c.args.text.now (λ i. search rules)) (channels_fit c.args.m c.well_formed.1.0))
    (rw a.1 at c.write.ensures)
