-- A stretch with the sum that is due.
use Rattle.std.specs.Prelude.{◌≡◌, ◌&&◌, List, [], ℕ, ◌-◌, ◌≤◌, leb, length, take, drop, set}
use Rattle.util.specs.Checksum.{checksum}
use Rattle.util.specs.Pick.{pick}

-- the bytes from the second up to the byte before the last, without that one
unfoldable pub summed_part : List ℕ → List ℕ
summed_part bs = take (length bs - 3) (drop 1 bs)

-- the bytes with the checksum that is due in place of the byte before the last
unfoldable pub mended : List ℕ → List ℕ
mended bs = set bs (length bs - 2) (checksum (summed_part bs))

-- the mended bytes where there are six or more and so many have room; else none
unfoldable pub mended_in : ℕ → List ℕ → List ℕ
mended_in room bs = pick (leb (length bs) room && leb 6 (length bs)) (mended bs) []

-- the first r bytes of a buffer are the mended bytes
pub record Mended (bs before after : List ℕ) (r : ℕ) : Type 0 where
  pub count : r ≡ length (mended_in (length before) bs)
  pub bytes : take r after ≡ mended_in (length before) bs
  pub fits : r ≤ length before
