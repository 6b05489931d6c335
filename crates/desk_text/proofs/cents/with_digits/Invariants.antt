-- `desk_text::cents::with_digits` meets its contract. The invariant: the digits that are left behind v say what all digits say, up to the most.
-- Assumes nothing.
use mathlib.Core.Path.{◌≡◌}
use Prim.Native.Nat.{◌-◌, ◌≤◌, min}
use lib.ListN.{drop}
use Rattle.desk_text.specs.Cents.{most, value_after, padded}
use Rattle.desk_text.proofs.cents.with_digits.Given as goal

abbrev pub invariant-loop-i : goal.invariant-loop-i
invariant-loop-i l =
    (l.v ≤ most) × (min (value_after l.v (padded (l.count - l.i) (drop l.i l.s))) most ≡ min (value_after l.n (padded l.count l.s)) most)
