-- `writer::put_sum` meets its contract: one byte is stored at the end, or nothing.
-- Assumes nothing.
use mathlib.Core.Path.{refl, sym, ap, ◌∙◌}
use lib.ListN.{set}
use Rattle.util.proofs.Laws.Splice.{splice_none, set_splice}
use Rattle.writer.proofs.put_sum.Goals as goal

pub returns-then-sum : goal.returns-then-sum
returns-then-sum c =
    rw c.if-sum.true
    (refl, ap (set c.args.out.now c.args.end) c.checksum-s.ensures ∙ set_splice c.args.out.now c.args.end _ c.requires.1)

pub returns-else-sum : goal.returns-else-sum
returns-else-sum c = rw c.if-sum.false (refl, sym (splice_none c.args.out.now c.args.end))
