-- `write_lists::packing::put_group` meets its contract. The invariant: what is left to store, stored, gives what all gives.
-- Assumes nothing.
use Rattle.std.proofs.Common.{◌≡◌, ◌+◌, drop}
use lib.Seq.{sets}
use Rattle.util.specs.Packing.{pack}
use Rattle.write_lists.proofs.packing.put_group.Given as goal

abbrev pub invariant-loop-i : goal.invariant-loop-i
invariant-loop-i l = sets l.out (l.i + 1) (drop (l.i + 1) (pack 0 l.group)) ≡ sets l.fn.out 0 (pack 0 l.group)
