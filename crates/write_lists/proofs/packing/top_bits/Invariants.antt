-- `write_lists::packing::top_bits` meets its contract. The invariant: the top bits of the first i bytes.
-- Assumes nothing.
use Rattle.std.proofs.Common.{◌≡◌, ◌^◌, ◌<◌}
use Rattle.util.specs.Packing.{tops}
use Rattle.write_lists.proofs.packing.top_bits.Given as goal

abbrev pub invariant-loop-i : goal.invariant-loop-i
invariant-loop-i l = (l.t ≡ tops l.i l.group) × (l.t < 2 ^ l.i)
