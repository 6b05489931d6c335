-- `write_lists::packing::put_file_data` meets its contract: a count byte, and after it the data packed.
-- Assumes nothing.
use mathlib.Core.List.{◌∷◌}
use mathlib.Core.Path.{refl}
use Prim.Native.Nat.{◌+◌, ◌-◌, ◌≤◌}
use native.Mathlib.Omega.{arith}
use lib.ListN.{length, set, length-set}
use borrow.Rule.Slice.PartMut.{put_mid}
use Rattle.util.specs.Packing.{pack}
use Rattle.util.proofs.Laws.Splice.{Run, run_length}
use Rattle.messages.specs.format.Packed.{count_byte}
use Rattle.write_lists.proofs.Laws.Fronts.{byte_room, byte_then}
use Rattle.write_lists.proofs.Laws.Packs.{length_pack}
use Rattle.write_lists.proofs.packing.put_file_data.Goals as goal
use Rattle.write_lists.proofs.packing.put_file_data.Goals.{After-slice_known-2-1, Start}

-- how many bytes the packed data is
size : (c : Start) → 1 + length (pack 0 c.args.s.now) ≤ length c.args.out.now
size c = omega (arith, length_pack 0 c.args.s.now (omega arith), c.requires)

-- the count byte and the data are written
both : (c : After-slice_known-2-1)
    → let x = set c.args.out.now 0 (count_byte c.args.s.now) in
    Run c.args.out.now (count_byte c.args.s.now ∷ pack 0 c.args.s.now)
    (put_mid 1 (length x - 1) x c.put_packed.new.out) (1 + length (pack 0 c.args.s.now))
both c =
    byte_then c.args.out.now (pack 0 c.args.s.now) c.put_packed.new.out (count_byte c.args.s.now) _ refl (omega (arith, length_pack 0 c.args.s.now (omega arith), c.requires)) c.put_packed.ensures

pub slice_bounds-put_packed-count : goal.slice_bounds-put_packed-count
slice_bounds-put_packed-count c = rw length-set (omega arith)

pub slice_bounds-put_packed-start : goal.slice_bounds-put_packed-start
slice_bounds-put_packed-start c = rw length-set (omega arith)

pub put_packed-requires : goal.put_packed-requires
put_packed-requires c = (c.requires.0, byte_room c.args.out.now (count_byte c.args.s.now) _ (size (goal.at.put_packed-requires c).Start))

pub shape_of-out : goal.shape_of-out
shape_of-out c = run_length (both c)

pub returns : goal.returns
returns c = (both c).is
