-- `numbers_write::tuning::put_scale_dump_2` meets its contract: its five writes, one after the other from the front, are the frame's parts.
-- Assumes nothing.
use mathlib.Core.Path.{refl, ap, ◌∙◌}
use mathlib.Core.Bool.{true}
use mathlib.Core.List.{[], ◌∷◌, ◌++◌}
use Prim.Native.Nat.{ℕ}
use native.Mathlib.Omega.{arith}
use lib.ListN.{length-set}
use Rattle.util.specs.Checksum.{checksum}
use Rattle.util.proofs.Laws.Splice.{run_set, run_room, run_length}
use Rattle.writer.specs.Frames.{wire}
use Rattle.writer.proofs.Laws.Opened.{Sized, opened, fronted, parted}
use Rattle.writer.proofs.Laws.Sums.{run_body}
use Rattle.write_fronts.proofs.Laws.{put}
use Rattle.numbers_write.proofs.Scales.{scale_front, scale_part, forty}
use Rattle.numbers_write.proofs.tuning.put_scale_dump_2.Goals as goal
use Rattle.numbers_write.proofs.tuning.put_scale_dump_2.Goals.{Start}

-- the sizes are those of the front and the part
sizes : (c : Start) → Sized c.args.out.now (scale_front c.args.d c.args.bank c.args.program) (scale_part c.args.s c.args.text.now) true 6 40
sizes c = record { front = refl; rest = forty c.args.s c.args.text.now; room = omega (arith, c.requires) }

pub slice_bounds-put_bank_program-count : goal.slice_bounds-put_bank_program-count
slice_bounds-put_bank_program-count c =
    rw length-set (omega (arith, c.requires))

pub slice_bounds-put_bank_program-start : goal.slice_bounds-put_bank_program-start
slice_bounds-put_bank_program-start c =
    rw length-set (omega (arith, c.requires))

pub put_bank_program-requires : goal.put_bank_program-requires
put_bank_program-requires c =
    run_room (opened c.args.out.now (omega (arith, c.requires))) 6 (omega (arith, c.requires))

pub slice_bounds-put_scale_dump_2-count : goal.slice_bounds-put_scale_dump_2-count
slice_bounds-put_scale_dump_2-count c =
    let k = sizes (goal.at.slice_bounds-put_scale_dump_2-count c).Start in
    omega (arith, k.room, run_length (fronted k c.put_bank_program.new.out c.put_bank_program.ensures))

pub slice_bounds-put_scale_dump_2-start : goal.slice_bounds-put_scale_dump_2-start
slice_bounds-put_scale_dump_2-start c =
    let k = sizes (goal.at.slice_bounds-put_scale_dump_2-start c).Start in
    omega (arith, k.room, run_length (fronted k c.put_bank_program.new.out c.put_bank_program.ensures))

pub put_scale_dump_2-requires : goal.put_scale_dump_2-requires
put_scale_dump_2-requires c =
    let k = sizes (goal.at.put_scale_dump_2-requires c).Start in
    run_room (fronted k c.put_bank_program.new.out c.put_bank_program.ensures) 40 (omega (arith, k.room))

pub slice_bounds-checksum-end : goal.slice_bounds-checksum-end
slice_bounds-checksum-end c =
    let k = sizes (goal.at.slice_bounds-checksum-end c).Start in
    omega (arith, k.room, run_length (parted k c.put_bank_program.new.out c.put_scale_dump_2.new.out c.put_bank_program.ensures c.put_scale_dump_2.ensures))

pub bounds-out-47 : goal.bounds-out-47
bounds-out-47 c =
    let k = sizes (goal.at.bounds-out-47 c).Start in
    omega (arith, k.room, run_length (parted k c.put_bank_program.new.out c.put_scale_dump_2.new.out c.put_bank_program.ensures c.put_scale_dump_2.ensures))

pub bounds-out-48 : goal.bounds-out-48
bounds-out-48 c =
    let k = sizes (goal.at.bounds-out-48 c).Start in
    omega (arith, k.room, run_length (run_set (parted k c.put_bank_program.new.out c.put_scale_dump_2.new.out c.put_bank_program.ensures c.put_scale_dump_2.ensures) c.checksum-x.result (omega (arith, k.room))))

pub shape_of-out : goal.shape_of-out
shape_of-out c =
    let k = sizes (goal.at.shape_of-out c).Start in
    run_length (run_set (run_set (parted k c.put_bank_program.new.out c.put_scale_dump_2.new.out c.put_bank_program.ensures c.put_scale_dump_2.ensures) c.checksum-x.result (omega (arith, k.room))) 0xF7 (omega (arith, k.room)))

pub returns : goal.returns
unfolding wire
returns c =
    let k = sizes (goal.at.returns c).Start in
    let h = scale_front c.args.d c.args.bank c.args.program in
    let p = scale_part c.args.s c.args.text.now in
    put c.args.out.now (ap (λ (v : ℕ). (0xF0 ∷ h ++ p) ++ (v ∷ []) ++ (0xF7 ∷ [])) (c.checksum-x.ensures ∙ ap checksum (run_body (parted k c.put_bank_program.new.out c.put_scale_dump_2.new.out c.put_bank_program.ensures c.put_scale_dump_2.ensures)))) (run_set (run_set (parted k c.put_bank_program.new.out c.put_scale_dump_2.new.out c.put_bank_program.ensures c.put_scale_dump_2.ensures) c.checksum-x.result (omega (arith, k.room))) 0xF7 (omega (arith, k.room))).is
