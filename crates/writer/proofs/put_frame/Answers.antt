-- `writer::put_frame` meets its contract: its five writes, one after the other from the front, are the frame's parts.
-- Assumes nothing.
use mathlib.Core.Path.{sym, ◌∙◌}
use native.Mathlib.Omega.{arith}
use lib.ListN.{length, length-set}
use Rattle.util.proofs.Laws.Splice.{run_set, run_room, run_length}
use Rattle.write_fronts.specs.Fronts.{front_of}
use Rattle.write_fronts.proofs.Laws.{front_length}
use Rattle.write_lists.specs.Parts.{part_of}
use Rattle.writer.specs.Frames.{wire}
use Rattle.writer.proofs.Laws.Opened.{Sized, sized, opened, fronted, parted, sum_long, summed}
use Rattle.writer.proofs.put_frame.Goals as goal
use Rattle.writer.proofs.put_frame.Goals.{Start}

-- the sizes are those of the front and the part
sizes : (c : Start)
    → Sized c.args.out.now (front_of c.args.d c.args.m (length c.args.text.now) (length c.args.entries.now)) (part_of c.args.m c.args.text.now c.args.entries.now) c.args.s.sum c.args.s.front c.args.s.part
sizes c =
    sized _ (front_of c.args.d c.args.m (length c.args.text.now) (length c.args.entries.now)) (part_of c.args.m c.args.text.now c.args.entries.now) c.args.s.sum _ _
    (front_length c.args.d c.args.m (length c.args.text.now) (length c.args.entries.now) ∙ sym c.requires.1) (sym c.requires.2) c.requires.3

pub bounds-out-0 : goal.bounds-out-0
bounds-out-0 c =
    let k = sizes (goal.at.bounds-out-0 c).Start in
    omega (arith, k.room)

pub slice_bounds-put_front-count : goal.slice_bounds-put_front-count
slice_bounds-put_front-count c =
    let k = sizes (goal.at.slice_bounds-put_front-count c).Start in
    rw length-set (omega (arith, k.room))

pub slice_bounds-put_front-start : goal.slice_bounds-put_front-start
slice_bounds-put_front-start c =
    let k = sizes (goal.at.slice_bounds-put_front-start c).Start in
    rw length-set (omega (arith, k.room))

pub put_front-requires : goal.put_front-requires
put_front-requires c =
    let k = sizes (goal.at.put_front-requires c).Start in
    run_room (opened c.args.out.now (omega (arith, k.room))) _ (omega (arith, k.room, c.requires.1))

pub overflow_add-a : goal.overflow_add-a
overflow_add-a c =
    let k = sizes (goal.at.overflow_add-a c).Start in
    omega (arith, k.room, c.well_formed.0.0)

pub slice_bounds-put_part-count : goal.slice_bounds-put_part-count
slice_bounds-put_part-count c =
    let k = sizes (goal.at.slice_bounds-put_part-count c).Start in
    omega (arith, k.room, run_length (fronted k c.put_front.new.out c.put_front.ensures))

pub slice_bounds-put_part-start : goal.slice_bounds-put_part-start
slice_bounds-put_part-start c =
    let k = sizes (goal.at.slice_bounds-put_part-start c).Start in
    omega (arith, k.room, run_length (fronted k c.put_front.new.out c.put_front.ensures))

pub put_part-requires : goal.put_part-requires
put_part-requires c =
    let k = sizes (goal.at.put_part-requires c).Start in
    (c.requires.0, run_room (fronted k c.put_front.new.out c.put_front.ensures) _ (omega (arith, k.room, k.rest)))

pub overflow_add-e : goal.overflow_add-e
overflow_add-e c =
    let k = sizes (goal.at.overflow_add-e c).Start in
    omega (arith, k.room, c.well_formed.0.0)

pub put_sum-requires : goal.put_sum-requires
put_sum-requires c =
    let k = sizes (goal.at.put_sum-requires c).Start in
    omega (arith, k.room, run_length (parted k c.put_front.new.out c.put_part.new.out c.put_front.ensures c.put_part.ensures))

pub overflow_add-z : goal.overflow_add-z
overflow_add-z c =
    let k = sizes (goal.at.overflow_add-z c).Start in
    omega (arith, k.room, sum_long k c.put_front.new.out c.put_part.new.out c.put_sum.result c.put_front.ensures c.put_part.ensures c.put_sum.ensures.0, c.well_formed.0.0)

pub bounds-out-z : goal.bounds-out-z
bounds-out-z c =
    let k = sizes (goal.at.bounds-out-z c).Start in
    omega (arith, k.room, sum_long k c.put_front.new.out c.put_part.new.out c.put_sum.result c.put_front.ensures c.put_part.ensures c.put_sum.ensures.0, run_length (summed k c.put_front.new.out c.put_part.new.out c.put_sum.new.out c.put_sum.result c.put_front.ensures c.put_part.ensures c.put_sum.ensures.0 c.put_sum.ensures.1))

pub shape_of-out : goal.shape_of-out
shape_of-out c =
    let k = sizes (goal.at.shape_of-out c).Start in
    simp length-set (run_length (summed k c.put_front.new.out c.put_part.new.out c.put_sum.new.out c.put_sum.result c.put_front.ensures c.put_part.ensures c.put_sum.ensures.0 c.put_sum.ensures.1))

pub returns : goal.returns
unfolding wire
returns c =
    let k = sizes (goal.at.returns c).Start in
    (run_set (summed k c.put_front.new.out c.put_part.new.out c.put_sum.new.out c.put_sum.result c.put_front.ensures c.put_part.ensures c.put_sum.ensures.0 c.put_sum.ensures.1) 0xF7 (omega (arith, k.room, sum_long k c.put_front.new.out c.put_part.new.out c.put_sum.result c.put_front.ensures c.put_part.ensures c.put_sum.ensures.0))).is
