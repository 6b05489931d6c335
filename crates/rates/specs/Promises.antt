-- What 01 promises of rates and cents, as propositions: the theorems of proofs/Promises.antt have these types.
use Rattle.std.specs.Prelude.{◌≡◌, ◌↔◌, true, false, [], ◌∷◌, ◌++◌, ℕ, ◌+◌, ◌*◌, ◌/◌, ◌%◌, ◌^◌, ◌≤◌, ◌<◌, negsuc, Float, Err}
use Rattle.std.specs.Float.{nan, inf, fin}
use Rattle.std.specs.Float.Ieee.{up, down}
use Rattle.std.specs.Float.Ieee.Exact.{HasValue}
use Rattle.std.specs.Float.Ieee.Positive.{num, den}
use Rattle.util.specs.Groups.{groups}
use Rattle.util.specs.declared.refusal.Refusal.TheVariants.{Value}
use Rattle.rates.specs.Rate.{pair, numbers_of, split_of, total, join_of}
use Rattle.rates.specs.Cents.{hold_of, scaled_of, cents_of}

-- ---- a rate, split

-- the split of the rate x, which is a / c: "its whole part and the floor of the rest in 2^28ths, both exact"
pub record Parts (x : Float) (a c : ℕ) : Type 0 where
  pub answer : numbers_of (split_of x) ≡ record { number = 0; whole = a / c; fraction = a % c * 2 ^ 28 / c }
  pub whole_fits : a / c < 2 ^ 28
  pub fraction_fits : a % c * 2 ^ 28 / c < 2 ^ 28
  pub floor : total (a / c) (a % c * 2 ^ 28 / c) ≡ a * 2 ^ 28 / c

-- for every rate from 0 on and below 2^28, by any fraction a / c that it equals
abbrev pub SplitParts : Type 0
SplitParts = (x : Float) (a c : ℕ) → 0 < c → HasValue x false a c → a < 2 ^ 28 * c → Parts x a c

-- below zero, -0 and -infinity among them
abbrev pub Minus : Float → Type 0
Minus nan = ⊥
Minus (inf s) = s ≡ true
Minus (fin s m e) = s ≡ true

-- "below zero counts as 0"
abbrev pub SplitBelowZero : Type 0
SplitBelowZero = (x : Float) → Minus x → numbers_of (split_of x) ≡ record { number = 0; whole = 0; fraction = 0 }

-- "NaN or 2^28 and up", +infinity among them
abbrev pub NotInRange : Float → Type 0
NotInRange nan = Unit {0}
NotInRange (inf s) = s ≡ false
NotInRange (fin s m e) = (s ≡ false) × (2 ^ 28 * down e ≤ m * up e)

-- row 3, VALUE, with 0 besides: exactly for such rates
abbrev pub SplitRefused : Type 0
SplitRefused = (x : Float) → (numbers_of (split_of x) ≡ record { number = 3; whole = 0; fraction = 0 }) ↔ NotInRange x

-- both numbers of a pair are below 2^28
abbrev pub SplitFits : Type 0
SplitFits = (x : Float) (w f : ℕ) → split_of x ≡ pair w f → (w < 2 ^ 28) × (f < 2 ^ 28)

-- ---- a pair, joined

-- "the f64 times 2^28 is a whole number" n
abbrev pub Units : Float → ℕ → Type 0
Units r n = HasValue r false n (2 ^ 28)

-- "the f64 times 2^28 is a whole number at most 4 from the pair's"
pub record Within4 (r : Float) (t : ℕ) : Type 0 where
  pub units : ℕ
  pub value : Units r units
  pub above : units ≤ t + 4
  pub under : t ≤ units + 4

-- for every pair of numbers below 2^28
abbrev pub JoinNear : Type 0
JoinNear = (w f : ℕ) → w < 2 ^ 28 → f < 2 ^ 28 → Within4 (join_of w f) (total w f)

-- "and equal to it below 2^25"
abbrev pub JoinExact : Type 0
JoinExact = (w f : ℕ) → w < 2 ^ 25 → f < 2 ^ 28 → Units (join_of w f) (total w f)

-- no smaller bound than 4 holds: the join of 134,217,728, 4 is 4 below the pair's number
abbrev pub JoinFourAttained : Type 0
JoinFourAttained = Units (join_of 134217728 4) (total 134217728 0)

-- split of join is the pair below 2^25
abbrev pub JoinSplit : Type 0
JoinSplit = (w f : ℕ) → w < 2 ^ 25 → f < 2 ^ 28 → split_of (join_of w f) ≡ pair w f

-- the smallest pair that is not the split of its join is 33,554,432, 1; that split is 33,554,432, 0
pub record JoinFirstOther : Type 0 where
  pub smaller : (w f : ℕ) → f < 2 ^ 28 → total w f < total 33554432 1 → split_of (join_of w f) ≡ pair w f
  pub other : split_of (join_of 33554432 1) ≡ pair 33554432 0

-- the join of 268,435,455, 268,435,452 is 2^28, which the split refuses
abbrev pub JoinTopRefused : Type 0
JoinTopRefused = split_of (join_of 268435455 268435452) ≡ Err Value

-- ---- cents

-- "held to 0..100": the held cents are finite, not below 0 and not above 100
abbrev pub CentsHeld : Type 0
CentsHeld = (x : Float) → HasValue (hold_of x) false (num (hold_of x)) (den (hold_of x)) × (num (hold_of x) ≤ 100 * den (hold_of x))

-- "100 times the answer", r, "is at most 51 from 16,383 times the held cents", num / den
pub record Within51 (h : Float) (r : ℕ) : Type 0 where
  pub above : 100 * r * den h ≤ 16383 * num h + 51 * den h
  pub under : 16383 * num h ≤ 100 * r * den h + 51 * den h

-- for every float, each f32 among them
abbrev pub CentsNear : Type 0
CentsNear = (x : Float) → Within51 (hold_of x) (cents_of x)

-- the answer is a 14-bit fraction
abbrev pub CentsTop : Type 0
CentsTop = (x : Float) → cents_of x ≤ 16383

-- "NaN gives 0"
abbrev pub CentsNan : Type 0
CentsNan = cents_of nan ≡ 0

-- 409,625 / 2^27 cents
abbrev pub half_cents : Float
half_cents = fin false 409625 (negsuc 26)

-- "halves away from zero": these cents are scaled to 1/2, and the answer is 1; a bound of 50 does not hold there
pub record CentsHalf : Type 0 where
  pub scaled : scaled_of half_cents ≡ fin false 1 (negsuc 0)
  pub answer : cents_of half_cents ≡ 1
  pub past_50 : 16383 * num half_cents + 50 * den half_cents < 100 * 1 * den half_cents

-- ---- worked out

-- frame 10: "Rate 44,100.5", which is 88,201 halves: "44 58 02 00 00 00 00 40"
pub record Worked : Type 0 where
  pub split : split_of (fin false 88201 (negsuc 0)) ≡ pair 44100 134217728
  pub bytes : groups 4 44100 ++ groups 4 134217728 ≡ 0x44 ∷ 0x58 ∷ 0x02 ∷ 0x00 ∷ 0x00 ∷ 0x00 ∷ 0x00 ∷ 0x40 ∷ []
