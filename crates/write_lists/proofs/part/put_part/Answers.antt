-- `write_lists::part::put_part` meets its contract, message by message: admitted contents have the size that is reckoned.
-- Assumes nothing.
use Prim.Native.Nat.{◌≤◌}
use native.Mathlib.Omega.{arith}
use lib.ListN.{length}
use Rattle.write_lists.specs.Parts.{part_size}
use Rattle.write_lists.proofs.Laws.Sizes.{length_part}
use Rattle.write_lists.proofs.part.put_part.Goals as goal
use Rattle.write_lists.proofs.part.put_part.Goals.{Start}

-- the room, by the size that is reckoned
room : (c : Start) → part_size c.args.m (length c.args.text.now) (length c.args.entries.now) ≤ length c.args.out.now
room c = omega (arith, length_part c.args.m c.args.text.now c.args.entries.now c.requires.0, c.requires.1)

pub put_part_sample-requires : goal.put_part_sample-requires
put_part_sample-requires c = rw c.in-SampleDump.is at (room (goal.at.put_part_sample-requires c).Start)

pub put_part_extended-requires : goal.put_part_extended-requires
put_part_extended-requires c = rw c.in-ExtendedSampleDump.is at (room (goal.at.put_part_extended-requires c).Start)

pub put_part_file-requires : goal.put_part_file-requires
put_part_file-requires c =
    let e = c.in-FileDump.is in
    (rw e at c.requires.0, rw e at (room (goal.at.put_part_file-requires c).Start))

pub put_key_dump-requires : goal.put_key_dump-requires
put_key_dump-requires c = rw c.in-KeyBasedTuningDump.is at (room (goal.at.put_key_dump-requires c).Start)

pub put_named-requires : goal.put_named-requires
put_named-requires c = omega (arith, rw c.in-ScaleTuningDump1Byte.is at (room (goal.at.put_named-requires c).Start))

pub put_scale_dump_2-requires : goal.put_scale_dump_2-requires
put_scale_dump_2-requires c = rw c.in-ScaleTuningDump2Byte.is at (room (goal.at.put_scale_dump_2-requires c).Start)

pub put_changes-requires : goal.put_changes-requires
put_changes-requires c = omega (arith, rw c.in-TuningNoteChange.is at (room (goal.at.put_changes-requires c).Start))

pub put_part_reference-requires : goal.put_part_reference-requires
put_part_reference-requires c = rw c.in-FileReference.is at (room (goal.at.put_part_reference-requires c).Start)
