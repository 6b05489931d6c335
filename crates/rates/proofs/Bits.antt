-- The digits of the bits of an f64, cut at a place, are the floor of its value at that place.
-- Assumes nothing.
use mathlib.Core.Path.{◌≡◌, refl, sym, ap, ◌∙◌, subst}
use Prim.Native.Nat.{ℕ, zero, suc, ◌+◌, ◌-◌, ◌*◌, ◌/◌, ◌%◌, ◌^◌, ◌≤◌, ◌<◌}
use native.Mathlib.Nat.{le_trans, le_of_eq, lt_of_lt_of_le, lt_of_le_of_lt, lt_of_not-le, not-le_of_lt, mul-one, mul_assoc, mul_right_comm, mul-le-mul_right, mul-lt-mul_of_pos_right, lt_of_mul-lt-mul_right, eq_of_mul-eq-mul_right, mul-div-mul_right, div-eq_of_lt, mod-lt, mod-eq_of_lt}
use native.Mathlib.Omega.{arith}
use mathlib.Core.Bool.{Bool, true, false, not, cond, true≢false}
use lib.IntN.{ℤ}
use lib.Dec.{T, leb, eqb, lit≤}
use lib.Pow.{pow-add, pow_pos, pow_mono}
use lib.Ieee.{Float, nan, inf, fin, binary64, up, down, odd, fits, is_nan, of_fields, of_bits, to_bits}
use lib.Ieee.Digits.{back}
use lib.Ieee.Fits.{down_pos}
use lib.Ieee.Exact.{HasValue, odd_sign}
use lib.Ieee.Nearest.{div_same}
use lib.Ieee.Bits.{of_bits-to_bits}
use borrow.Author.Tests.{leb-false}
use Rattle.rates.specs.Digits.{digits_of}

-- ---- what `digits_above` returns where it does not shift
digits_lt : (b : ℕ) → 2 ^ 52 + b % 2 ^ 52 < 2 ^ 53
digits_lt b = omega arith

gone : (d s : ℕ) → d < 2 ^ 53 → 53 ≤ s → d / 2 ^ s ≡ 0
gone d s h g = div-eq_of_lt (lt_of_lt_of_le h (pow_mono g))

pub all_cut : (b u : ℕ) → 64 ≤ u - b / 2 ^ 52 → 0 ≡ digits_of b u
all_cut b u h = sym (gone (2 ^ 52 + b % 2 ^ 52) (u - b / 2 ^ 52) (digits_lt b) (le_trans (lit≤ tt) h))

-- ---- a value by the fields of its pattern, in units of 2 ^ -1074
abbrev magnitude : ℕ → ℕ → ℕ
magnitude zero t = t * 1
magnitude (suc x) t = (2 ^ 52 + t) * 2 ^ x

no_nan : (m : ℕ) (e : ℤ) → nan ≡ fin false m e → ⊥
no_nan m e p = let z : ◌≡◌ {A = ℕ} 0 1 = cc in omega arith

no_inf : (s : Bool) (m : ℕ) (e : ℤ) → inf s ≡ fin false m e → ⊥
no_inf s m e p = let z : ◌≡◌ {A = ℕ} 0 1 = cc in omega arith

fields : (s : Bool) (x t m : ℕ) (e : ℤ) → of_fields binary64 s x t ≡ fin false m e → HasValue (fin false m e) s (magnitude x t) (2 ^ 1074)
unfolding of_fields
fields s zero t m e p = subst (λ (z : Float). HasValue z s (t * 1) (2 ^ 1074)) p (odd_sign 53 s t 0 1074)
fields s (suc x) t m e p = go (eqb (suc x) 2047) (eqb t 0) p
  where
    go : (b c : Bool) → cond b (cond c (inf s) nan) (odd 53 s (2 ^ 52 + t) x 1074) ≡ fin false m e → HasValue (fin false m e) s ((2 ^ 52 + t) * 2 ^ x) (2 ^ 1074)
    go true true q = absurd (no_inf s m e q)
    go true false q = absurd (no_nan m e q)
    go false c q = subst (λ (z : Float). HasValue z s ((2 ^ 52 + t) * 2 ^ x) (2 ^ 1074)) q (odd_sign 53 s (2 ^ 52 + t) x 1074)

opened : (b : ℕ) → of_bits binary64 b ≡ of_fields binary64 (leb (2 ^ 63) b) (b % 2 ^ 63 / 2 ^ 52) (b % 2 ^ 52)
unfolding of_bits
opened b = refl

-- the sign's bit is clear, so the rest of the pattern is all of it
pub by_bits : (m : ℕ) (e : ℤ) → T (fits binary64 (fin false m e)) → let b = to_bits binary64 (fin false m e) in HasValue (fin false m e) false (magnitude (b / 2 ^ 52) (b % 2 ^ 52)) (2 ^ 1074)
by_bits m e h =
    let x = fin false m e in
    let b = to_bits binary64 x in
    let v = fields (leb (2 ^ 63) b) (b % 2 ^ 63 / 2 ^ 52) (b % 2 ^ 52) m e (sym (opened b) ∙ of_bits-to_bits binary64 x h) in
    let small : b < 2 ^ 63 = leb-false (2 ^ 63) b (sym v.0) in
    (refl, v.1 ∙ ap (λ (z : ℕ). magnitude (z / 2 ^ 52) (b % 2 ^ 52) * down e) (mod-eq_of_lt small))

-- ---- two fractions that one value equals
cross : (x : Float) (a c b d : ℕ) → HasValue x false a c → HasValue x false b d → a * d ≡ b * c
cross nan a c b d u v = absurd u
cross (inf s) a c b d u v = absurd u
cross (fin s m e) a c b d u v =
    eq_of_mul-eq-mul_right (down e) (down_pos e) (a * d) (b * c)
    (mul_right_comm a d (down e)
    ∙ ap (λ (z : ℕ). z * d) (sym u.1)
    ∙ mul_right_comm (m * up e) c d
    ∙ ap (λ (z : ℕ). z * c) v.1
    ∙ mul_right_comm b (down e) c)

-- ---- the floor of 2 ^ j times a / c, where a / c is `magnitude x t` units
exponents : (i j : ℕ) → 2 ^ i < 2 ^ j → i < j
exponents i j h = lt_of_not-le (λ (g : j ≤ i). not-le_of_lt h (pow_mono g))

in_reach : (a c j d x : ℕ) → 0 < c → 2 ^ 52 ≤ d → a * 2 ^ 1074 ≡ d * 2 ^ x * c → a * 2 ^ j < 2 ^ 53 * c → x + j ≤ 1074
in_reach a c j d x C D e h =
    let k : d * 2 ^ x * 2 ^ j * c < 2 ^ 1127 * c =
    lt_of_le_of_lt (le_of_eq (mul_right_comm (d * 2 ^ x) (2 ^ j) c ∙ ap (λ (z : ℕ). z * 2 ^ j) (sym e) ∙ mul_right_comm a (2 ^ 1074) (2 ^ j)))
    (lt_of_lt_of_le (mul-lt-mul_of_pos_right h (pow_pos 1074)) (le_of_eq (mul_right_comm (2 ^ 53) c (2 ^ 1074)))) in
    let l : 2 ^ (52 + (x + j)) < 2 ^ 1127 =
    lt_of_le_of_lt (le_trans (le_of_eq (pow-add 2 52 (x + j))) (le_trans (mul-le-mul_right (2 ^ (x + j)) D) (le_of_eq (ap (λ (z : ℕ). d * z) (pow-add 2 x j) ∙ sym (mul_assoc d (2 ^ x) (2 ^ j))))))
    (lt_of_mul-lt-mul_right c k) in
    last (x + j) (exponents (52 + (x + j)) 1127 l)
  where
    last : (z : ℕ) → 52 + z < 1127 → z ≤ 1074
    last z h = omega arith

shifted : (a c j d x : ℕ) → 0 < c → x + j ≤ 1074 → a * 2 ^ 1074 ≡ d * 2 ^ x * c → a * 2 ^ j / c ≡ d / 2 ^ (1074 - (x + j))
shifted a c j d x C r e =
    let s = 1074 - (x + j) in
    div_same (a * 2 ^ j) c (d * 2 ^ x * 2 ^ j) (2 ^ 1074) C (pow_pos 1074) (mul_right_comm a (2 ^ j) (2 ^ 1074) ∙ ap (λ (z : ℕ). z * 2 ^ j) e ∙ mul_right_comm (d * 2 ^ x) c (2 ^ j))
    ∙ ap (λ (z : ℕ). z / 2 ^ 1074) (mul_assoc d (2 ^ x) (2 ^ j) ∙ ap (λ (z : ℕ). d * z) (sym (pow-add 2 x j)))
    ∙ ap (λ (z : ℕ). d * 2 ^ (x + j) / z) (ap (λ (z : ℕ). 2 ^ z) (sym (back 1074 (x + j) r)) ∙ pow-add 2 s (x + j))
    ∙ mul-div-mul_right d (2 ^ s) (pow_pos (x + j))

tiny : (a c j t : ℕ) → 0 < c → j ≤ 1022 → t < 2 ^ 52 → a * 2 ^ 1074 ≡ t * 1 * c → a * 2 ^ j / c ≡ 0
tiny a c j t C J h e =
    div_same (a * 2 ^ j) c (t * 1 * 2 ^ j) (2 ^ 1074) C (pow_pos 1074) (mul_right_comm a (2 ^ j) (2 ^ 1074) ∙ ap (λ (z : ℕ). z * 2 ^ j) e ∙ mul_right_comm (t * 1) c (2 ^ j))
    ∙ div-eq_of_lt (lt_of_le_of_lt (le_of_eq (ap (λ (z : ℕ). z * 2 ^ j) (mul-one t))) (lt_of_lt_of_le (mul-lt-mul_of_pos_right h (pow_pos j)) (le_trans (le_of_eq (sym (pow-add 2 52 j))) (pow_mono (room j J)))))
  where
    room : (j : ℕ) → j ≤ 1022 → 52 + j ≤ 1074
    room j h = omega arith

by_fields : (a c j u x t : ℕ) → 0 < c → u + j ≡ 1075 → 53 ≤ u → t < 2 ^ 52 → a * 2 ^ 1074 ≡ magnitude x t * c → a * 2 ^ j < 2 ^ 53 * c → a * 2 ^ j / c ≡ (2 ^ 52 + t) / 2 ^ (u - x)
by_fields a c j u zero t C s l h e k =
    tiny a c j t C (left j u s l) h e ∙ sym (gone (2 ^ 52 + t) (u - 0) (most t h) (le_trans l (le_of_eq (same u))))
  where
    left : (j u : ℕ) → u + j ≡ 1075 → 53 ≤ u → j ≤ 1022
    left j u s l = omega arith

    most : (t : ℕ) → t < 2 ^ 52 → 2 ^ 52 + t < 2 ^ 53
    most t h = omega arith

    same : (u : ℕ) → u ≡ u - 0
    same u = omega arith
by_fields a c j u (suc x) t C s l h e k =
    let r = in_reach a c j (2 ^ 52 + t) x C (most t) e k in
    shifted a c j (2 ^ 52 + t) x C r e ∙ ap (λ (z : ℕ). (2 ^ 52 + t) / 2 ^ z) (same u j x s)
  where
    most : (t : ℕ) → 2 ^ 52 ≤ 2 ^ 52 + t
    most t = omega arith

    same : (u j x : ℕ) → u + j ≡ 1075 → 1074 - (x + j) ≡ u - suc x
    same u j x s = omega arith

-- 2 ^ j times a / c, below 2 ^ 53, cut to a whole number
pub bits_floor : (x : Float) (a c j u : ℕ) → T (fits binary64 x) → 0 < c → HasValue x false a c → u + j ≡ 1075 → 53 ≤ u → a * 2 ^ j < 2 ^ 53 * c → a * 2 ^ j / c ≡ digits_of (to_bits binary64 x) u
bits_floor nan a c j u f C v s l h = absurd v
bits_floor (inf t) a c j u f C v s l h = absurd v
bits_floor (fin true m e) a c j u f C v s l h = absurd (true≢false v.0)
bits_floor (fin false m e) a c j u f C v s l h =
    let x = fin false m e in
    let b = to_bits binary64 x in
    by_fields a c j u (b / 2 ^ 52) (b % 2 ^ 52) C s l (mod-lt b (pow_pos 52)) (cross x a c (magnitude (b / 2 ^ 52) (b % 2 ^ 52)) (2 ^ 1074) v (by_bits m e f)) h

pub value_no_nan : (x : Float) (s : Bool) (a c : ℕ) → HasValue x s a c → T (not (is_nan x))
unfolding is_nan
value_no_nan nan s a c v = absurd v
value_no_nan (inf t) s a c v = absurd v
value_no_nan (fin t m e) s a c v = tt
