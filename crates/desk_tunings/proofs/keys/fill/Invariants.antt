-- `desk_tunings::keys::fill` meets its contract. The invariant: the entries below the place are filled, and the others are as they were.
-- Assumes nothing.
use mathlib.Core.Path.{◌≡◌}
use Prim.Native.Nat.{ℕ, ◌≤◌, ◌<◌}
use lib.ListN.{length, get_or}
use Rattle.desk_tunings.specs.Keys.{filled_entry}
use Rattle.desk_tunings.proofs.keys.fill.Given as goal

abbrev pub invariant-loop-key : goal.invariant-loop-key
invariant-loop-key l =
    (length l.entries ≡ length l.initial.entries) × ((k : ℕ) → k < l.key → get_or l.entries k 0 ≡ filled_entry (get_or l.initial.entries k 0) k) × ((k : ℕ) → l.key ≤ k → get_or l.entries k 0 ≡ get_or l.initial.entries k 0)
