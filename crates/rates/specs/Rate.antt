-- A rate (01, "Beside the walk"), split and joined, in exact integers: a finite float `fin s m e` has the sign s and the size m * up e / down e (`lib.Ieee`). Definitions only.
use Rattle.std.specs.Prelude.{ℕ, ◌+◌, ◌*◌, ◌/◌, ◌%◌, ◌^◌, false, cond, ltb, Float, Result, Ok, Err}
use Rattle.std.specs.Float.{nan, inf, fin, binary64}
use Rattle.std.specs.Float.Ieee.{up, down, round}
use Rattle.util.specs.declared.refusal.Refusal.TheVariants.{Value}
use Rattle.util.specs.Refusals.{number}
use Rattle.util.specs.declared.refusal.Refusal.{Refusal}
use Rattle.rates.specs.declared.RatePair.{RatePair}

-- a rate's whole part w and its fraction f
abbrev pub pair : ℕ → ℕ → Result RatePair Refusal
pair w f = Ok (record { whole = w; fraction = f })

-- "split into its whole part and the floor of the rest in 2^28ths, both exact", of the rate a / d; "2^28 and up" is 3 VALUE
abbrev pub parts_of : ℕ → ℕ → Result RatePair Refusal
parts_of a d = cond (ltb a (2 ^ 28 * d)) (pair (a / d) (a % d * 2 ^ 28 / d)) (Err Value)

-- "A rate given as f64": "below zero counts as 0", -0 and -infinity among them; "NaN or 2^28 and up", +infinity among them, is 3 VALUE
unfoldable pub split_of : Float → Result RatePair Refusal
split_of nan = Err Value
split_of (inf s) = cond s (pair 0 0) (Err Value)
split_of (fin s m e) = cond s (pair 0 0) (parts_of (m * up e) (down e))

-- what a split answers in 01: a number and two values
pub record SplitNumbers : Type 0 where
  pub number : ℕ
  pub whole : ℕ
  pub fraction : ℕ

-- 01's number and values for each case: "Where nothing is refused the number is 0"; a refusal has 0 "besides the number"
abbrev pub numbers_of : Result RatePair Refusal → SplitNumbers
numbers_of (Ok p) = record { number = 0; whole = p.whole; fraction = p.fraction }
numbers_of (Err r) = record { number = number r; whole = 0; fraction = 0 }

-- a pair as one number, of 2^28ths
abbrev pub total : ℕ → ℕ → ℕ
total w f = w * 2 ^ 28 + f

-- "Joined back with one rounding": the f64 nearest to the pair's number of 2^28ths, of two as near the one with an even last digit
unfoldable pub join_of : ℕ → ℕ → Float
join_of w f = round binary64 false (total w f) (2 ^ 28)
