-- `rates::cents_to_u14` meets its contract: it returns the whole number nearest to the scaled cents, which fits 16 bits.
-- Assumes nothing.
use mathlib.Core.Path.{◌≡◌, sym, ap, ◌∙◌, subst}
use mathlib.Core.Bool.{not, ◌&&◌}
use Prim.Native.Nat.{ℕ, ◌+◌, ◌/◌, ◌^◌, ◌<◌}
use native.Mathlib.Nat.{lt_of_le_of_lt}
use lib.Dec.{T, lit<}
use lib.Ieee.{Float, binary64, fits, is_nan, to_bits}
use lib.Ieee.Fits.{and_i}
use Rattle.rates.specs.Digits.{digits_of}
use Rattle.rates.specs.Cents.{scaled_of, cents_of}
use Rattle.rates.proofs.Cents.{fitting, number, halves, top}
use Rattle.rates.proofs.cents_to_u14.Goals as goal
use Rattle.rates.proofs.cents_to_u14.Goals.{After-nearest}

known : (c : After-nearest) → c.nearest.result ≡ cents_of c.args.cents
known c =
    let x = c.args.cents in
    c.nearest.ensures
    ∙ ap (λ (p : Float). (digits_of (to_bits binary64 p) 1074 + 1) / 2) c.scaled_cents.ensures
    ∙ halves x

pub float_to_float-scaled_cents : goal.float_to_float-scaled_cents
float_to_float-scaled_cents c =
    let x = c.args.cents in
    subst (λ (p : Float). T (fits binary64 p && not (is_nan p))) (sym c.scaled_cents.ensures) (and_i (fits binary64 (scaled_of x)) (not (is_nan (scaled_of x))) (fitting x) (number x))

pub float_to_bits-scaled_cents : goal.float_to_bits-scaled_cents
float_to_bits-scaled_cents c =
    let x = c.args.cents in
    subst (λ (p : Float). T (not (is_nan p))) (sym c.scaled_cents.ensures) (number x)

pub overflow_cast-result : goal.overflow_cast-result
overflow_cast-result c = record { fits = subst (λ (r : ℕ). r < 2 ^ 16) (sym (known c)) (lt_of_le_of_lt (top c.args.cents) (lit< tt)) }

pub returns : goal.returns
returns c = known c
