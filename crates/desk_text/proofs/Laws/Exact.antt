-- Laws of decimals that are cut off: what is left is the exact number, rounded down.
-- Assumes nothing.
use mathlib.Core.Path.{◌≡◌, refl}
use mathlib.Core.Bool.{Bool, true, false, not}
use mathlib.Core.List.{List, [], ◌∷◌}
use Prim.Native.Nat.{ℕ, zero, suc, ◌+◌, ◌*◌, ◌-◌, ◌^◌, ◌≤◌, ◌<◌}
use native.Mathlib.Nat.{mul-le-mul_right, pow-succ'}
use native.Mathlib.Omega.{arith}
use borrow.Author.Tests.{eqb-true}
use lib.ListN.{length}
use Rattle.util.specs.Pick.{pick}
use Rattle.std.specs.Prelude.{Some, None}
use Rattle.desk_text.specs.Spans.{is_digit, span}
use Rattle.desk_text.specs.Cents.{value_after, padded, are_digits}
use Rattle.desk_text.proofs.Laws.Digits.{digit_most}

-- all bytes are digits, one by one
pub data Digits : List ℕ → Type 0 where
  none : Digits []
  more : {b : ℕ} {l : List ℕ} → is_digit b ≡ true → Digits l → Digits (b ∷ l)

first_digit : (t : Bool) (m n : ℕ) → pick (not t) 0 (suc m) ≡ suc n → (t ≡ true) × (m ≡ n)
first_digit true m n h = (refl, omega arith)
first_digit false m n h = absurd (omega (arith, h))

from_span : (l : List ℕ) → span (λ b. not (is_digit b)) l ≡ length l → Digits l
unfolding span
from_span [] h = none
from_span (b ∷ l) h =
    let f = first_digit (is_digit b) (span (λ b. not (is_digit b)) l) (length l) h in
    more f.0 (from_span l f.1)

pub from_digits : (l : List ℕ) → are_digits l ≡ true → Digits l
unfolding are_digits
from_digits l h = from_span l (eqb-true _ _ h)

times_ten : (d : ℕ) → 10 ^ suc d ≡ 10 * 10 ^ d
times_ten d = pow-succ' 10 d

-- digits behind a number are below one more of it
pub value_bounds : (n : ℕ) (l : List ℕ) → Digits l → (n * 10 ^ length l ≤ value_after n l) × (value_after n l < (n + 1) * 10 ^ length l)
unfolding value_after
value_bounds n [] none = (omega arith, omega arith)
value_bounds n (b ∷ l) (more d r) =
    let x = b - 48 in
    let p = 10 ^ length l in
    let ih = value_bounds (n * 10 + x) l r in
    let m = digit_most b d in
    let k : x * p ≤ 9 * p = mul-le-mul_right p (omega (arith, m)) in
    (rw (times_ten (length l)) (omega (arith, ih.0, k)), rw (times_ten (length l)) (omega (arith, ih.1, k)))

-- so many decimals of a number, and the number with all of them
pub cut_bounds : (k n : ℕ) (l : List ℕ) → Digits l
    → (value_after n (padded k l) * 10 ^ length l ≤ value_after n l * 10 ^ k) × (value_after n l * 10 ^ k < (value_after n (padded k l) + 1) * 10 ^ length l)
unfolding value_after padded
cut_bounds zero n l d = let b = value_bounds n l d in (omega (arith, b.0), omega (arith, b.1))
cut_bounds (suc k) n [] none =
    let ih = cut_bounds k (n * 10 + (48 - 48)) [] none in
    (rw (times_ten k) (omega (arith, ih.0)), rw (times_ten k) (omega (arith, ih.1)))
cut_bounds (suc k) n (b ∷ l) (more d r) =
    let ih = cut_bounds k (n * 10 + (b - 48)) l r in
    (rw (times_ten k, times_ten (length l)) (omega (arith, ih.0)), rw (times_ten k, times_ten (length l)) (omega (arith, ih.1)))

-- a step count that is nearest to a number rounded down is nearest to the number: t of its p-th parts, which is m, are between a and a + 1
pub nearest_exact : (rs h a m p : ℕ) → rs ≤ a + h → a + 1 ≤ rs + h → a * p ≤ m → m < (a + 1) * p → (rs * p ≤ m + h * p) × (m < (rs + h) * p)
nearest_exact rs h a m p u v lo hi =
    let x : rs * p ≤ (a + h) * p = mul-le-mul_right p u in
    let y : (a + 1) * p ≤ (rs + h) * p = mul-le-mul_right p v in
    (omega arith, omega arith)

-- what a number of digits and decimals says
pub is_joined : (t u : Bool) (v n : ℕ) → pick t (pick u None (Some v)) None ≡ Some n → (t ≡ true) × (v ≡ n)
is_joined true true v n h = let z : ◌≡◌ {A = ℕ} 0 1 = cc in absurd (omega arith)
is_joined true false v n h = (refl, cc)
is_joined false u v n h = let z : ◌≡◌ {A = ℕ} 0 1 = cc in absurd (omega arith)
