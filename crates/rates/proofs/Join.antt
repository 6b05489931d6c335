-- What `join_rate` returns, on plain values: its sum is the pair's number of 2^28ths, rounded once, and how far that is from the number.
-- Assumes nothing.
use mathlib.Core.Path.{◌≡◌, refl, sym, ap, ◌∙◌, subst}
use Prim.Native.Nat.{ℕ, ◌+◌, ◌-◌, ◌*◌, ◌/◌, ◌^◌, ◌≤◌, ◌<◌}
use native.Mathlib.Nat.{le_of_lt, le_antisymm, lt_of_lt_of_le, lt_of_not-le, not-le_of_lt, zero-lt-suc, mul-one, mul_assoc, mul-le-mul_right, mul-lt-mul_of_pos_right, le-div_iff_mul-le}
use native.Mathlib.Omega.{arith}
use mathlib.Core.Bool.{Bool, true, false, not}
use lib.IntN.{pos, negsuc}
use lib.Dec.{T, ltb, ltb→lt, nltb→le, lit<, lit≤}
use lib.Pow.{pow-add, pow_pos, pow_mono}
use lib.Ieee.{Float, fin, binary64, size, round, add, mul, of_int}
use lib.Ieee.Digits.{size-lt, back}
use lib.Ieee.Exact.{HasValue}
use lib.Ieee.Order.{drop, kept}
use lib.Ieee.Scale.{round_val}
use lib.Ieee.Back.{round_whole}
use Rattle.rates.specs.Rate.{total, join_of}
use Rattle.rates.specs.Promises.{Units, Within4}
use Rattle.rates.proofs.Values.{rescale, mul_value, add_value, dyadic, Near, grid_near, near_cancel}

-- 2 ^ -28
abbrev pub part : Float
part = fin false 1 (negsuc 27)

-- ---- the sum
pub one_rounding : (w f : ℕ) → w < 2 ^ 32 → f < 2 ^ 32 → add binary64 (of_int binary64 (pos w)) (mul binary64 (of_int binary64 (pos f)) part) ≡ round binary64 false (total w f) (2 ^ 28)
unfolding of_int
one_rounding w f W F =
    let x = round binary64 false w 1 in
    let y = round binary64 false f 1 in
    let small : (n : ℕ) → n < 2 ^ 32 → n ≤ 2 ^ 53 = λ n h. le_of_lt (lt_of_lt_of_le h (lit≤ tt)) in
    let v : HasValue (mul binary64 y part) false (f * 1) (2 ^ 28) =
    subst (λ (z : Float). HasValue z false (f * 1) (2 ^ 28))
    (sym (mul_value binary64 y part f 1 1 (2 ^ 28) (zero-lt-suc 0) (pow_pos 28) (round_whole binary64 false f (small f F)) (refl, refl)))
    (dyadic binary64 (f * 1) f 28 0 refl (lt_of_lt_of_le F (lit≤ tt)) (lit≤ tt) (lit≤ tt)) in
    add_value binary64 x (mul binary64 y part) w 1 (f * 1) (2 ^ 28) (zero-lt-suc 0) (pow_pos 28) (round_whole binary64 false w (small w W)) v
    ∙ ap (λ (z : ℕ). round binary64 false (w * 2 ^ 28 + z) (2 ^ 28)) (mul-one (f * 1) ∙ mul-one f)

-- ---- up to 2 ^ 53 the number is held exactly
pub held_exactly : (t : ℕ) → t ≤ 2 ^ 53 → Units (round binary64 false t (2 ^ 28)) t
held_exactly t h = go (ltb t (2 ^ 53)) (ltb→lt t (2 ^ 53)) (nltb→le t (2 ^ 53))
  where
    go : (b : Bool) → (T b → t < 2 ^ 53) → (T (not b) → 2 ^ 53 ≤ t) → Units (round binary64 false t (2 ^ 28)) t
    go true p q = dyadic binary64 t t 28 0 (sym (mul-one t)) (p tt) (lit≤ tt) (lit≤ tt)
    go false p q = dyadic binary64 t 1 28 53 (le_antisymm h (q tt)) (lit< tt) (lit≤ tt) (lit≤ tt)

-- ---- above, the result is a multiple of 2 ^ 1046 of the format's smallest values, so a whole number of 2 ^ 28ths, and is off by half of 2 ^ 1049 of those at the most
size_gt : (n j : ℕ) → 2 ^ j ≤ n → j < size n
size_gt n j h = lt_of_not-le (λ (g : size n ≤ j). not-le_of_lt (lt_of_lt_of_le (size-lt n) (pow_mono g)) h)

past : (z : ℕ) → 1099 < z → 1046 ≤ z - 53
past z h = omega arith

-- 2 ^ 1077 is 8 * 2 ^ 1074
apart : (g t : ℕ) → Near (t * 2 ^ 1074) (g * 2 ^ 1046 * 2 ^ 28) (2 ^ 28 * 2 ^ 1049) → Near t g 8
apart g t h = near_cancel (2 ^ 1074) t g 8 (pow_pos 1074) (subst (λ (z : ℕ). Near (t * 2 ^ 1074) z (2 ^ 1077)) (mul_assoc g (2 ^ 1046) (2 ^ 28)) h)

-- half of 8 is the bound
bounds : (r : Float) (t g : ℕ) → Units r g → Near t g 8 → Within4 r t
bounds r t g v n = record { units = g; value = v; above = omega arith; under = omega arith }

under57 : (g t : ℕ) → Near t g 8 → t < 2 ^ 56 → g < 2 ^ 57
under57 g t h k = omega arith

fine : (g t : ℕ) → Near t g 8 → t < 2 ^ 56 → g * 2 ^ 1046 < 2 ^ 2098
fine g t h k = lt_of_lt_of_le (mul-lt-mul_of_pos_right (under57 g t h k) (pow_pos 1046)) (lit≤ tt)

far : (t : ℕ) → 2 ^ 53 ≤ t → t < 2 ^ 56 → Within4 (round binary64 false t (2 ^ 28)) t
far t l h =
    let n = t * 2 ^ 1074 in
    let k = drop 53 n (2 ^ 28) in
    let q = kept 53 n (2 ^ 28) in
    let g = q * 2 ^ (k - 1046) in
    let k-ge : 1046 ≤ k = past (size (n / 2 ^ 28)) (size_gt (n / 2 ^ 28) 1099 ((le-div_iff_mul-le (pow_pos 28)).1 (mul-le-mul_right (2 ^ 1074) l))) in
    let e : q * 2 ^ k ≡ g * 2 ^ 1046 = ap (λ (z : ℕ). q * z) (ap (λ (z : ℕ). 2 ^ z) (sym (back k 1046 k-ge)) ∙ pow-add 2 (k - 1046) 1046) ∙ sym (mul_assoc q (2 ^ (k - 1046)) (2 ^ 1046)) in
    let near = apart g t (subst (λ (z : ℕ). Near n (z * 2 ^ 28) (2 ^ 28 * 2 ^ 1049)) e (grid_near binary64 t (2 ^ 28) 1049 (pow_pos 28) (mul-lt-mul_of_pos_right h (pow_pos 1074)))) in
    let val : HasValue (round binary64 false t (2 ^ 28)) false (g * 2 ^ 1046) (2 ^ 1074) =
    subst (λ (z : ℕ). HasValue (round binary64 false t (2 ^ 28)) false z (2 ^ 1074)) e
    (round_val binary64 t (2 ^ 28) (subst (λ (z : ℕ). z < 2 ^ 2098) (sym e) (fine g t near h))) in
    bounds (round binary64 false t (2 ^ 28)) t g (rescale (round binary64 false t (2 ^ 28)) false (g * 2 ^ 1046) (2 ^ 1074) g (2 ^ 28) (pow_pos 1074) (sym (mul_assoc g (2 ^ 1046) (2 ^ 28))) val) near

self : (t : ℕ) → Near t t 8
self t = (omega arith, omega arith)

pub within : (t : ℕ) → t < 2 ^ 56 → Within4 (round binary64 false t (2 ^ 28)) t
within t h = go (ltb t (2 ^ 53)) (ltb→lt t (2 ^ 53)) (nltb→le t (2 ^ 53))
  where
    go : (b : Bool) → (T b → t < 2 ^ 53) → (T (not b) → 2 ^ 53 ≤ t) → Within4 (round binary64 false t (2 ^ 28)) t
    go true p q = bounds (round binary64 false t (2 ^ 28)) t t (held_exactly t (le_of_lt (p tt))) (self t)
    go false p q = far t (q tt) h

-- ---- the definition opened
pub joined : (w f : ℕ) → round binary64 false (total w f) (2 ^ 28) ≡ join_of w f
unfolding join_of
joined w f = refl
