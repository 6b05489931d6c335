-- `write_lists::entries::put_keys` meets its contract. The invariant: the keys that are left, written on what is there, give what all give.
-- Assumes nothing.
use mathlib.Core.Path.{◌≡◌}
use Prim.Native.Nat.{◌*◌}
use Rattle.util.specs.Splice.{splice}
use Rattle.write_lists.specs.Parts.{part_keys}
use Rattle.write_lists.proofs.Laws.Keys.{keys_from}
use Rattle.write_lists.proofs.entries.put_keys.Given as goal

abbrev pub invariant-loop-i : goal.invariant-loop-i
invariant-loop-i l = splice l.out (3 * l.i) (keys_from l.s l.i) ≡ splice l.initial.out 0 (part_keys l.s)
