-- `numbers_write::sample_dump::put_packet` meets its contract: its five writes, one after the other from the front, are the frame's parts.
-- Assumes nothing.
use mathlib.Core.Path.{refl, ap, ◌∙◌}
use mathlib.Core.Bool.{true}
use mathlib.Core.List.{[], ◌∷◌, ◌++◌}
use Prim.Native.Nat.{ℕ}
use native.Mathlib.Omega.{arith}
use lib.ListN.{length-set}
use Rattle.util.specs.Checksum.{checksum}
use Rattle.util.proofs.Laws.Splice.{run_set, run_room, run_length}
use Rattle.writer.specs.Frames.{wire}
use Rattle.writer.proofs.Laws.Opened.{Sized, opened, fronted, parted}
use Rattle.writer.proofs.Laws.Sums.{run_body}
use Rattle.messages.specs.declared.sample_dump.SampleDumpMsg.TheVariants as sample
use Rattle.write_fronts.specs.Fronts.{front_sample}
use Rattle.write_fronts.proofs.Laws.{put}
use Rattle.write_lists.specs.Parts.{part_sample}
use Rattle.numbers_write.proofs.Samples.{samples_length}
use Rattle.numbers_write.proofs.sample_dump.put_packet.Goals as goal
use Rattle.numbers_write.proofs.sample_dump.put_packet.Goals.{Start}

-- the sizes are those of the front and the part
sizes : (c : Start) → Sized c.args.out.now (front_sample c.args.d (sample.Packet c.args.count)) (part_sample (sample.Packet c.args.count) c.args.text.now) true 4 120
sizes c = record { front = refl; rest = samples_length c.args.count c.args.text.now; room = omega (arith, c.requires) }

pub slice_bounds-put_packet-count : goal.slice_bounds-put_packet-count
slice_bounds-put_packet-count c =
    rw length-set (omega (arith, c.requires))

pub slice_bounds-put_packet-start : goal.slice_bounds-put_packet-start
slice_bounds-put_packet-start c =
    rw length-set (omega (arith, c.requires))

pub put_packet-requires : goal.put_packet-requires
put_packet-requires c =
    run_room (opened c.args.out.now (omega (arith, c.requires))) 4 (omega (arith, c.requires))

pub slice_bounds-put_samples-count : goal.slice_bounds-put_samples-count
slice_bounds-put_samples-count c =
    let k = sizes (goal.at.slice_bounds-put_samples-count c).Start in
    omega (arith, k.room, run_length (fronted k c.put_packet.new.out c.put_packet.ensures))

pub slice_bounds-put_samples-start : goal.slice_bounds-put_samples-start
slice_bounds-put_samples-start c =
    let k = sizes (goal.at.slice_bounds-put_samples-start c).Start in
    omega (arith, k.room, run_length (fronted k c.put_packet.new.out c.put_packet.ensures))

pub put_samples-requires : goal.put_samples-requires
put_samples-requires c =
    let k = sizes (goal.at.put_samples-requires c).Start in
    run_room (fronted k c.put_packet.new.out c.put_packet.ensures) 120 (omega (arith, k.room))

pub slice_bounds-checksum-end : goal.slice_bounds-checksum-end
slice_bounds-checksum-end c =
    let k = sizes (goal.at.slice_bounds-checksum-end c).Start in
    omega (arith, k.room, run_length (parted k c.put_packet.new.out c.put_samples.new.out c.put_packet.ensures c.put_samples.ensures))

pub bounds-out-125 : goal.bounds-out-125
bounds-out-125 c =
    let k = sizes (goal.at.bounds-out-125 c).Start in
    omega (arith, k.room, run_length (parted k c.put_packet.new.out c.put_samples.new.out c.put_packet.ensures c.put_samples.ensures))

pub bounds-out-126 : goal.bounds-out-126
bounds-out-126 c =
    let k = sizes (goal.at.bounds-out-126 c).Start in
    omega (arith, k.room, run_length (run_set (parted k c.put_packet.new.out c.put_samples.new.out c.put_packet.ensures c.put_samples.ensures) c.checksum-s.result (omega (arith, k.room))))

pub shape_of-out : goal.shape_of-out
shape_of-out c =
    let k = sizes (goal.at.shape_of-out c).Start in
    run_length (run_set (run_set (parted k c.put_packet.new.out c.put_samples.new.out c.put_packet.ensures c.put_samples.ensures) c.checksum-s.result (omega (arith, k.room))) 0xF7 (omega (arith, k.room)))

pub returns : goal.returns
unfolding wire
returns c =
    let k = sizes (goal.at.returns c).Start in
    let h = front_sample c.args.d (sample.Packet c.args.count) in
    let p = part_sample (sample.Packet c.args.count) c.args.text.now in
    put c.args.out.now (ap (λ (v : ℕ). (0xF0 ∷ h ++ p) ++ (v ∷ []) ++ (0xF7 ∷ [])) (c.checksum-s.ensures ∙ ap checksum (run_body (parted k c.put_packet.new.out c.put_samples.new.out c.put_packet.ensures c.put_samples.ensures)))) (run_set (run_set (parted k c.put_packet.new.out c.put_samples.new.out c.put_packet.ensures c.put_samples.ensures) c.checksum-s.result (omega (arith, k.room))) 0xF7 (omega (arith, k.room))).is
