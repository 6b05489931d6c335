-- `read_places::entries::put_each` meets its contract. The invariant: each place passed has its entry.
-- Assumes nothing.
use Prim.Native.Nat.{ℕ, ◌<◌}
use lib.ListN.{get_or}
use Rattle.read_places.proofs.entries.put_each.Given as goal

abbrev pub invariant-loop-i : goal.invariant-loop-i
invariant-loop-i g l = (k : ℕ) → k < l.i → goal.E-post g l.entry k (get_or l.place-items k 0)
