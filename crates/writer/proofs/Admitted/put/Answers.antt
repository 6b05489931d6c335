-- `writer::Admitted::put` meets its contract: what is put is the message's frame.
-- Assumes nothing.
use mathlib.Core.List.{List, ◌++◌}
use mathlib.Core.Path.{◌≡◌, ap, ◌∙◌}
use Prim.Native.Nat.{ℕ}
use lib.ListN.{length}
use Rattle.util.specs.Splice.{overwritten}
use Rattle.write_fronts.specs.Fronts.{front_of}
use Rattle.write_lists.specs.Parts.{part_of}
use Rattle.writer.specs.Frames.{frame_of, wire}
use Rattle.writer.proofs.Laws.Sums.{frame_by}
use Rattle.writer.proofs.Admitted.put.Goals as goal

pub put_frame-requires : goal.put_frame-requires
put_frame-requires c =
    let a = c.self.inside in
    let r = rw (← c.self.view_is) at c.requires in
    let frame_is : wire c.args.s.sum (front_of c.from-d.result a.m (length a.text.now) (length a.entries.now) ++ part_of a.m a.text.now a.entries.now) ≡ frame_of c.args.device a.m a.text.now a.entries.now = frame_by c.args.s.sum c.from-d.result c.args.device a.m a.text.now a.entries.now r.0.sum_is c.from-d.ensures in
    (c.self.invariant, r.0.front_is, r.0.part_is, rw frame_is r.1)

pub returns : goal.returns
returns c =
    let a = c.self.inside in
    let r = rw (← c.self.view_is) at c.requires in
    let frame_is : wire c.args.s.sum (front_of c.from-d.result a.m (length a.text.now) (length a.entries.now) ++ part_of a.m a.text.now a.entries.now) ≡ frame_of c.args.device a.m a.text.now a.entries.now = frame_by c.args.s.sum c.from-d.result c.args.device a.m a.text.now a.entries.now r.0.sum_is c.from-d.ensures in
    rw (← c.self.view_is) (c.put_frame.ensures ∙ ap (λ (l : List ℕ). overwritten l c.args.out.now) frame_is)
