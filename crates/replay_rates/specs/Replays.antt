-- The cases of ops 5, 6 and 7, and when their answers are right.
use Rattle.std.specs.Prelude.{◌≡◌, ℕ, ◌<◌, ◌^◌, eqb, true, length, Float, Result, Ok, Err, from_bits, to_bits}
use Rattle.std.specs.Float.{binary32, binary64}
use Rattle.std.specs.Float.Ieee.{lt}
use Rattle.util.specs.Pick.{pick}
use Rattle.util.specs.Refusals.{number}
use Rattle.util.specs.declared.refusal.Refusal.{Refusal}
use Rattle.rates.specs.declared.RatePair.{RatePair}
use Rattle.rates.specs.Rate.{split_of, join_of}
use Rattle.rates.specs.Cents.{cents_of}
use Rattle.replay_vectors.specs.declared.cases.Case.{Case}
use Rattle.replay_vectors.specs.Verdicts.{number_at}

-- so many numbers and out numbers, and nothing else
abbrev pub Formed : Case → ℕ → ℕ → Type 0
Formed c n m = (length c.numbers.now ≡ n) × (length c.out_numbers.now ≡ m) × (length c.text.now ≡ 0) × (length c.bytes.now ≡ 0) × (length c.entries.now ≡ 0) × (length c.out_entries.now ≡ 0)

-- op 5: the bits of an f32, and its cents as the answer value
abbrev pub CentsCase : Case → Type 0
CentsCase c = Formed c 1 0 × (number_at c.numbers.now 0 < 2 ^ 32)

abbrev pub CentsRight : Case → Type 0
CentsRight c = cents_of (from_bits binary32 (number_at c.numbers.now 0)) ≡ c.value

-- op 6: the bits of an f64, and the pair that it splits into, where it is not refused
abbrev pub SplitCase : Case → Type 0
SplitCase c = Formed c 1 (pick (eqb c.refusal 0) 2 0)

abbrev pub Splits : Result RatePair Refusal → ℕ → ℕ → ℕ → Type 0
Splits (Ok p) refusal whole fraction = (refusal ≡ 0) × (p.whole ≡ whole) × (p.fraction ≡ fraction)
Splits (Err r) refusal whole fraction = number r ≡ refusal

abbrev pub SplitRight : Case → Type 0
SplitRight c = Splits (split_of (from_bits binary64 (number_at c.numbers.now 0))) c.refusal (number_at c.out_numbers.now 0) (number_at c.out_numbers.now 1)

-- op 7: a pair, and the bits of the f64 that it joins to as the answer value
abbrev pub JoinCase : Case → Type 0
JoinCase c = Formed c 2 0 × (number_at c.numbers.now 0 < 2 ^ 32) × (number_at c.numbers.now 1 < 2 ^ 32)

-- a float below 2^64 has these bits
abbrev pub HasBits : Float → ℕ → Type 0
HasBits x bits = (lt x (from_bits binary64 0x43F0000000000000) ≡ true) × (to_bits binary64 x ≡ bits)

abbrev pub JoinRight : Case → Type 0
JoinRight c = HasBits (join_of (number_at c.numbers.now 0) (number_at c.numbers.now 1)) c.value
