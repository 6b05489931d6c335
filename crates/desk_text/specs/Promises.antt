-- What words promise, as propositions: the theorems of proofs/Promises.antt have these types.
use Rattle.std.specs.Prelude.{◌≡◌, Some, List, ℕ, ◌+◌, ◌*◌, ◌/◌, ◌^◌, ◌≤◌, ◌<◌, length}
use Rattle.desk_text.specs.Cents.{most, value_after, whole_of, decimals_of, unsigned_of}
use Rattle.desk_text.specs.Fractions.{step_16384, step_8192, nearest}

-- r steps, of so many ten trillionths of a cent, are the nearest to n / 10 ^ d cents: at most half a step away, half-way up
pub record NearestTo (step r n d : ℕ) : Type 0 where
  pub above : r * step * 10 ^ d ≤ n * 10 ^ 13 + step / 2 * 10 ^ d
  pub below : n * 10 ^ 13 < (r * step + step / 2) * 10 ^ d

-- the number that all digits of a word say
abbrev pub digits_of : List ℕ → ℕ
digits_of w = value_after (value_after 0 (whole_of w)) (decimals_of w)

-- how many of them are decimals
abbrev pub places_of : List ℕ → ℕ
places_of w = length (decimals_of w)

-- the steps that are reckoned from a word's ten trillionths, where those behind the thirteenth decimal are cut off, are the nearest to the exact
-- number that the word says, however many decimals it has
abbrev pub NearestOfExact : Type 0
NearestOfExact =
    (w : List ℕ) (n : ℕ) → unsigned_of w ≡ Some n → n < most
    → NearestTo step_16384 (nearest step_16384 n) (digits_of w) (places_of w)
    × NearestTo step_8192 (nearest step_8192 n) (digits_of w) (places_of w)
