-- `util::bytes::copy` meets its contract. The invariant: the stores that are left, made on what is there, give what all stores give.
-- Assumes nothing.
use Rattle.std.proofs.Common.{◌≡◌, length, drop}
use Rattle.std.proofs.Math.Seq.{sets}
use Rattle.util.proofs.bytes.copy.Given as goal

abbrev pub invariant-loop-i : goal.invariant-loop-i
invariant-loop-i l = (length l.out ≡ length l.initial.out) × (sets l.out l.i (drop l.i l.s) ≡ sets l.initial.out 0 l.s)
