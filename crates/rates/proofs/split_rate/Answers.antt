-- `rates::split_rate` meets its contract: the two tests pick the definition's case, and between them the digits of the rate and of the rest are its parts.
-- Assumes nothing.
use mathlib.Core.Path.{◌≡◌, sym, ap, ◌∙◌, subst}
use Prim.Native.Nat.{ℕ, ◌^◌, ◌<◌}
use native.Mathlib.Nat.{le_of_lt, lt_of_lt_of_le}
use lib.Dec.{T, le→leb, lit≤}
use lib.Ieee.{binary64, of_bits, to_bits, in_float}
use Rattle.rates.specs.Rate.{pair}
use Rattle.rates.specs.Digits.{digits_of}
use Rattle.rates.proofs.Split.{rest, Split, split, number, none, refused}
use Rattle.rates.proofs.split_rate.Goals as goal
use Rattle.rates.proofs.split_rate.Goals.{After-digits_above-whole}

-- at the whole part
known : (c : After-digits_above-whole) → Split c.args.rate c.digits_above-whole.result
unfolding of_bits
known c =
    split c.args.rate c.digits_above-whole.result (subst T (sym c.well_formed.0.1) tt) c.if-rate.true c.if-rate-2.true c.digits_above-whole.ensures

-- not above 0
pub returns-else-rate-2 : goal.returns-else-rate-2
unfolding of_bits
returns-else-rate-2 c = none c.args.rate c.if-rate.true c.if-rate-2.false

-- not below 2^28
pub returns-else-rate : goal.returns-else-rate
unfolding of_bits
returns-else-rate c = refused c.args.rate c.if-rate.false

pub returns-then-rate-2 : goal.returns-then-rate-2
returns-then-rate-2 c =
    let x = c.args.rate in
    let w = c.digits_above-whole.result in
    let e : c.digits_above-fraction.result ≡ digits_of (to_bits binary64 (rest x w)) 1047 = c.digits_above-fraction.ensures in
    ap (λ (z : ℕ). pair w z) e ∙ (known (goal.at.returns-then-rate-2 c).After-digits_above-whole).is

pub float_to_bits-rate : goal.float_to_bits-rate
unfolding of_bits
float_to_bits-rate c = number c.args.rate c.if-rate.true

pub int_to_float-rest : goal.int_to_float-rest
unfolding in_float
int_to_float-rest c = le→leb c.digits_above-whole.result (2 ^ 53) (le_of_lt (lt_of_lt_of_le (known (goal.at.int_to_float-rest c).After-digits_above-whole).small (lit≤ tt)))

pub float_to_bits-rest : goal.float_to_bits-rest
float_to_bits-rest c = (known (goal.at.float_to_bits-rest c).After-digits_above-whole).number

pub overflow_cast-result : goal.overflow_cast-result
overflow_cast-result c = record { fits = lt_of_lt_of_le (known (goal.at.overflow_cast-result c).After-digits_above-whole).small (lit≤ tt) }

pub overflow_cast-result-then-rate-2 : goal.overflow_cast-result-then-rate-2
overflow_cast-result-then-rate-2 c = record { fits = lt_of_lt_of_le (subst (λ (z : ℕ). z < 2 ^ 28) (sym c.digits_above-fraction.ensures) (known (goal.at.overflow_cast-result-then-rate-2 c).After-digits_above-whole).small2) (lit≤ tt) }
