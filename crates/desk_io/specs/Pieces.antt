-- The rule of pieces: where in a piece of so many bytes the next one begins. A piece of fewer than 65,535 bytes is the last.
use Rattle.std.specs.Prelude.{◌≡◌, ℕ, ◌+◌, ◌≤◌, ◌<◌}
use Rattle.util.specs.Limits.{most_stream}

-- r is within the piece; it is the end of the last piece; another piece begins behind the start, and whatever begins before it with at most
-- 4,096 bytes ends within this piece
pub record NextPiece (len r : ℕ) : Type 0 where
  pub within : r ≤ len
  pub last : len < most_stream → r ≡ len
  pub onward : most_stream ≤ len → 1 ≤ r
  pub whole : (o l : ℕ) → most_stream ≤ len → o < r → l ≤ 4096 → o + l ≤ len
