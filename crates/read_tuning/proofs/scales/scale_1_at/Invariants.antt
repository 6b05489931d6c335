-- `read_tuning::scales::scale_1_at` meets its contract: each place below the k-th has its value.
-- Assumes nothing.
use mathlib.Core.Path.{◌≡◌}
use Prim.Native.Nat.{ℕ, ◌+◌, ◌<◌}
use lib.IntN.{pos}
use lib.ListN.{length, get_or}
use Rattle.read_tuning.specs.Scales.{s7_at}
use Rattle.read_tuning.proofs.scales.scale_1_at.Given as goal

abbrev pub invariant-loop-k : goal.invariant-loop-k
invariant-loop-k l = (length l.scale ≡ 12) × ((j : ℕ) → j < l.k → get_or l.scale j (pos 0) ≡ s7_at l.f (l.i + j))
