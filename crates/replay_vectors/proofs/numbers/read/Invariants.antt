-- `replay_vectors::numbers::read` meets its contract. The invariant: each number passed is the one of its eight bytes.
-- Assumes nothing.
use Rattle.std.proofs.Common.{◌≡◌, ℕ, ◌<◌, get_or, []}
use Rattle.replay_vectors.specs.Little.{little8}
use Rattle.replay_vectors.proofs.numbers.read.Given as goal

abbrev pub invariant-loop-i : goal.invariant-loop-i
invariant-loop-i l = (k : ℕ) → k < l.i → get_or l.out k 0 ≡ little8 (get_or l.list k []) 0
