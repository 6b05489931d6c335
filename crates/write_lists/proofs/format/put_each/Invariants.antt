-- `write_lists::format::put_each` meets its contract. The invariant: the values that are left, written on what is there, give what all give.
-- Assumes nothing.
use Rattle.std.proofs.Common.{◌≡◌, ◌*◌, drop}
use Rattle.util.specs.Splice.{splice}
use Rattle.write_lists.specs.Writing.{each}
use Rattle.write_lists.proofs.format.put_each.Given as goal

abbrev pub invariant-loop-i : goal.invariant-loop-i
invariant-loop-i g l =
    splice l.out (g.F.Format.SIZE * l.i) (each g.F.Format.bytes (drop l.i l.values))
    ≡ splice l.initial.out 0 (each g.F.Format.bytes l.values)
