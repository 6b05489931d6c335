-- `walk::past` meets its contract. The invariant: the run from `from` on ends where that from `i` on does.
-- Assumes nothing.
use mathlib.Core.Path.{◌≡◌}
use mathlib.Core.Bool.{Bool}
use Prim.Native.Nat.{ℕ, ◌+◌, ◌-◌, ◌≤◌}
use lib.ListN.{length, drop}
use Rattle.std.specs.List.{prefix_len}
use Rattle.walk.proofs.past.Given as goal

abbrev pub invariant-loop-i : goal.invariant-loop-i
invariant-loop-i g l =
    (l.i ≤ length l.s)
    × ((p : ℕ → Bool) → ((b : ℕ) (r : Bool) → goal.F-post g l.passes b r → r ≡ p b) → l.i + prefix_len p (drop l.i l.s) ≡ l.from + prefix_len p (drop l.from l.s))

abbrev pub decreases-loop-i : goal.decreases-loop-i
decreases-loop-i g l = length l.s - l.i
