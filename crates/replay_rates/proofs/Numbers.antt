-- Which floats and which bits are no NaN.
-- Assumes nothing.
use mathlib.Core.Path.{◌≡◌, refl, sym, subst, ◌∙◌}
use mathlib.Core.Bool.{Bool, true, not}
use Prim.Native.Nat.{ℕ, ◌%◌, ◌*◌, ◌<◌, ◌≤◌}
use native.Mathlib.Omega.{arith}
use lib.Dec.{T}
use lib.Ieee.{Float, nan, inf, fin, Format, ones, hid, top, nan_bits, is_nan, of_bits, lt}
use lib.Ieee.Bits.{nan_bits_above, nan_bits_is}
use borrow.Author.Tests.{le-ltb, lt-ltb}

pub not_nan : (f : Format) (n : ℕ) → n % top f ≤ ones f * hid f → T (not (nan_bits f n))
not_nan f n h = subst (λ (b : Bool). T (not b)) (sym (nan_bits_above f n ∙ le-ltb _ _ h)) tt

-- what is below a float is no NaN
pub less_number : (x y : Float) → lt x y ≡ true → T (not (is_nan x))
unfolding lt is_nan
less_number nan y p = absurd (let z : ◌≡◌ {A = ℕ} 0 1 = cc in omega arith)
less_number (inf s) y p = tt
less_number (fin s m e) y p = tt

-- bits of a NaN are NaN
only_nan : (x : Float) → is_nan x ≡ true → nan ≡ x
unfolding is_nan
only_nan nan e = refl
only_nan (inf s) e = absurd (let z : ◌≡◌ {A = ℕ} 0 1 = cc in omega arith)
only_nan (fin s m x) e = absurd (let z : ◌≡◌ {A = ℕ} 0 1 = cc in omega arith)

pub nan_of_bits : (f : Format) (n : ℕ) → ones f * hid f < n % top f → nan ≡ of_bits f n
nan_of_bits f n h = only_nan (of_bits f n) (sym (nan_bits_is f n) ∙ nan_bits_above f n ∙ lt-ltb _ _ h)
