-- What `cents_to_u14` returns, on plain values, and how far it is from 16,383 times the held cents H / D; a float is counted in the smallest values of the format, of which 2^149 make 1.
-- Assumes nothing.
use mathlib.Core.Path.{◌≡◌, refl, sym, ap, ◌∙◌, subst}
use Prim.Native.Nat.{ℕ, ◌+◌, ◌*◌, ◌/◌, ◌%◌, ◌^◌, ◌≤◌, ◌<◌}
use native.Mathlib.Nat.{le_trans, le_of_eq, le_of_lt, lt_of_lt_of_le, lt_of_le_of_lt, zero-lt-suc, mul-one, mul_comm, mul_assoc, mul_left_comm, mul_right_comm, mul-mul-mul_comm, add-mul, mul-pos, mul-le-mul_right, mul-lt-mul_of_pos_right, mul-lt-mul_of_pos_left, add_comm, add-mul-div_right, div-lt_iff_lt-mul, le_of_mul-le-mul_right, lt_of_mul-lt-mul_left, div-add-mod', div-div-eq-div-mul, add-div_right, mod-lt}
use native.Mathlib.Omega.{arith}
use mathlib.Core.Bool.{Bool, true, false, not, cond, true≢false}
use lib.Dec.{T, lit<, lit≤}
use lib.Pow.{pow_pos}
use lib.Ieee.{Float, nan, inf, fin, binary32, binary64, up, down, round, mul, div, lt, fits, is_nan, to_bits}
use lib.Ieee.Fits.{down_pos, mul-fits, fits_widens}
use lib.Ieee.Exact.{HasValue}
use lib.Ieee.Nearest.{div_same}
use lib.Ieee.Positive.{num, den, den_pos}
use lib.Ieee.Scale.{round_same, grid, round_val}
use borrow.Author.Tests.{ltb-true}
use Rattle.rates.specs.Cents.{zero32, hundred, full, hold_of, nearest_of, scaled_of}
use Rattle.rates.specs.Promises.{Within51}
use Rattle.rates.specs.Digits.{digits_of}
use Rattle.rates.proofs.Values.{mul_value, Near, grid_near, near_cancel, near_scale}
use Rattle.rates.proofs.Bits.{bits_floor, value_no_nan}

-- ---- the held cents

-- finite, not negative, and at most 100
abbrev Held : Float → Type 0
Held h = HasValue h false (num h) (den h) × (num h ≤ 100 * den h)

no : {A : Type 0} → false ≡ true → A
no p = absurd (true≢false (sym p))

between : (x : Float) → lt zero32 x ≡ true → lt x hundred ≡ true → Held x
unfolding lt
between nan p q = no p
between (inf true) p q = no p
between (inf false) p q = no q
between (fin true m e) p q = no p
between (fin false m e) p q = ((refl, refl), most (m * up e) (down e) (ltb-true (m * up e * 1) (100 * down e) q))
  where
    most : (a d : ℕ) → a * 1 < 100 * d → a ≤ 100 * d
    most a d h = omega arith

pub hold_value : (x : Float) → Held (hold_of x)
unfolding hold_of
hold_value nan = ((refl, refl), lit≤ tt)
hold_value (inf true) = ((refl, refl), lit≤ tt)
hold_value (inf false) = ((refl, refl), lit≤ tt)
hold_value (fin s m e) = go (lt zero32 (fin s m e)) (lt (fin s m e) hundred) (between (fin s m e))
  where
    go : (b c : Bool) → (b ≡ true → c ≡ true → Held (fin s m e)) → Held (cond b (cond c (fin s m e) hundred) zero32)
    go true true h = h refl refl
    go true false h = ((refl, refl), lit≤ tt)
    go false c h = ((refl, refl), lit≤ tt)

-- ---- what the two tests of `hold_cents` pick
pub hold_between : (x : Float) → lt zero32 x ≡ true → lt x hundred ≡ true → x ≡ hold_of x
unfolding lt hold_of
hold_between nan p q = no p
hold_between (inf true) p q = no p
hold_between (inf false) p q = no q
hold_between (fin s m e) p q = sym (ap (λ (t : Bool). cond t (cond (lt (fin s m e) hundred) (fin s m e) hundred) zero32) p ∙ ap (λ (t : Bool). cond t (fin s m e) hundred) q)

pub hold_above : (x : Float) → lt zero32 x ≡ true → lt x hundred ≡ false → hundred ≡ hold_of x
unfolding lt hold_of
hold_above nan p q = no p
hold_above (inf true) p q = no p
hold_above (inf false) p q = refl
hold_above (fin s m e) p q = sym (ap (λ (t : Bool). cond t (cond (lt (fin s m e) hundred) (fin s m e) hundred) zero32) p ∙ ap (λ (t : Bool). cond t (fin s m e) hundred) q)

pub hold_below : (x : Float) → lt zero32 x ≡ false → zero32 ≡ hold_of x
unfolding lt hold_of
hold_below nan p = refl
hold_below (inf true) p = refl
hold_below (inf false) p = absurd (true≢false p)
hold_below (fin s m e) p = sym (ap (λ (t : Bool). cond t (cond (lt (fin s m e) hundred) (fin s m e) hundred) zero32) p)

-- ---- divided by 100
div_hundred : (x : Float) (a c : ℕ) → 0 < c → HasValue x false a c → div binary32 x hundred ≡ round binary32 false a (c * 100)
unfolding div
div_hundred nan a c C v = absurd v
div_hundred (inf s) a c C v = absurd v
div_hundred (fin true m e) a c C v = absurd (true≢false v.0)
div_hundred (fin false m e) a c C v =
    round_same binary32 false (m * up e * 1) (100 * down e) a (c * 100) (mul-pos (zero-lt-suc 99) (down_pos e)) (mul-pos C (zero-lt-suc 99))
    (ap (λ (z : ℕ). z * (c * 100)) (mul-one (m * up e))
    ∙ sym (mul_assoc (m * up e) c 100)
    ∙ ap (λ (z : ℕ). z * 100) v.1
    ∙ mul_assoc a (down e) 100
    ∙ ap (λ (z : ℕ). a * z) (mul_comm (down e) 100))

-- the quotient is at most 1, so it is off by 2 ^ 125 at the most
up_to : (h c l : ℕ) → h ≤ c → 0 < c → 0 < l → h * l < 2 * l * c
up_to h c l p C L = lt_of_le_of_lt (mul-le-mul_right l p) (lt_of_lt_of_le (twice (c * l) (mul-pos C L)) (le_of_eq (ap (λ (z : ℕ). 2 * z) (mul_comm c l) ∙ sym (mul_assoc 2 l c))))
  where
    twice : (z : ℕ) → 0 < z → z < 2 * z
    twice z h = omega arith

first_near : (h c : ℕ) → h ≤ c → 0 < c → Near (h * 2 ^ 149) (grid binary32 h c * c) (c * 2 ^ 126)
first_near h c p C = grid_near binary32 h c 126 C (up_to h c (2 ^ 149) p C (pow_pos 149))

first_most : (h c g : ℕ) → h ≤ c → 0 < c → Near (h * 2 ^ 149) (g * c) (c * 2 ^ 126) → 2 * g ≤ 2 ^ 150 + 2 ^ 126
first_most h c g p C n =
    le_of_mul-le-mul_right
    (le_trans (le_of_eq (mul_assoc 2 g c))
    (le_trans (through (2 * (g * c)) (h * 2 ^ 149) (c * 2 ^ 149) (c * 2 ^ 126) n.1 (mul-le-mul_right (2 ^ 149) p))
    (le_of_eq
    (ap (λ (z : ℕ). z + c * 2 ^ 126) (ap (λ (z : ℕ). 2 * z) (mul_comm c (2 ^ 149)) ∙ sym (mul_assoc 2 (2 ^ 149) c))
    ∙ ap (λ (z : ℕ). 2 ^ 150 * c + z) (mul_comm c (2 ^ 126))
    ∙ sym (add-mul (2 ^ 150) (2 ^ 126) c)))))
    C
  where
    through : (x y z k : ℕ) → x ≤ 2 * y + k → y ≤ z → x ≤ 2 * z + k
    through x y z k a b = omega arith

-- ---- times 16,383: below 2 ^ 14, so it is off by 2 ^ 138 at the most
self_le : (g k : ℕ) → 2 * g ≤ k → g ≤ k
self_le g k h = omega arith

product_lt : (g : ℕ) → 2 * g ≤ 2 ^ 150 + 2 ^ 126 → g * 16383 < 2 ^ 163
product_lt g h = lt_of_mul-lt-mul_left 2 (lt_of_le_of_lt (le_of_eq (sym (mul_assoc 2 g 16383))) (lt_of_le_of_lt (mul-le-mul_right 16383 h) (lit< tt)))

second_near : (g : ℕ) → g * 16383 < 2 ^ 163 → Near (g * 16383) (grid binary32 (g * 16383) (2 ^ 149)) (2 ^ 139)
second_near g h = near_cancel (2 ^ 149) (g * 16383) (grid binary32 (g * 16383) (2 ^ 149)) (2 ^ 139) (pow_pos 149) (grid_near binary32 (g * 16383) (2 ^ 149) 139 (pow_pos 149) (mul-lt-mul_of_pos_right h (pow_pos 149)))

second_most : (a g : ℕ) → a < 2 ^ 163 → Near a g (2 ^ 139) → g ≤ 2 ^ 164 + 2 ^ 139
second_most a g h n = self_le g (2 ^ 164 + 2 ^ 139) (through (2 * g) a (2 ^ 163) (2 ^ 139) n.1 (le_of_lt h))
  where
    through : (x y z k : ℕ) → x ≤ 2 * y + k → y ≤ z → x ≤ 2 * z + k
    through x y z k a b = omega arith

-- ---- to the nearest whole number
-- the whole part, and 1 where the rest is a half or more, is the floor of one half more
one_half_more : (a d : ℕ) → 0 < d → a / d + 2 * (a % d) / d ≡ (2 * a + d) / (2 * d)
one_half_more a d D =
    let q = a / d in
    let r = a % d in
    let t = 2 * r / d in
    let small : t < 2 = (div-lt_iff_lt-mul D).1 (mul-lt-mul_of_pos_left (mod-lt a D) (zero-lt-suc 1)) in
    sym (ap (λ (z : ℕ). z / (2 * d)) (apart a d q r (q * d) (q * (2 * d)) (mul_left_comm q 2 d) (div-add-mod' a d))
    ∙ add-mul-div_right (2 * r + d) q (mul-pos (zero-lt-suc 1) D)
    ∙ add_comm ((2 * r + d) / (2 * d)) q
    ∙ ap (λ (z : ℕ). q + z) (ap (λ (z : ℕ). (2 * r + d) / z) (mul_comm 2 d) ∙ sym (div-div-eq-div-mul (2 * r + d) d 2) ∙ ap (λ (z : ℕ). z / 2) (add-div_right (2 * r) D) ∙ bit t small))
  where
    apart : (a d q r x y : ℕ) → y ≡ 2 * x → x + r ≡ a → 2 * a + d ≡ 2 * r + d + y
    apart a d q r x y e h = omega arith

    bit : (t : ℕ) → t < 2 → (t + 1) / 2 ≡ t
    bit t h = omega arith

nearest_value : (p : Float) (g l : ℕ) → 0 < l → HasValue p false g l → nearest_of p ≡ (2 * g + l) / (2 * l)
unfolding nearest_of
nearest_value nan g l L v = absurd v
nearest_value (inf s) g l L v = absurd v
nearest_value (fin true m e) g l L v = absurd (true≢false v.0)
nearest_value (fin false m e) g l L v =
    let a = m * up e in
    let d = down e in
    one_half_more a d (down_pos e)
    ∙ div_same (2 * a + d) (2 * d) (2 * g + l) (2 * l) (mul-pos (zero-lt-suc 1) (down_pos e)) (mul-pos (zero-lt-suc 1) L)
    (add-mul (2 * a) d (2 * l)
    ∙ ap (λ (z : ℕ). z + d * (2 * l)) (mul-mul-mul_comm 2 a 2 l ∙ ap (λ (z : ℕ). 4 * z) v.1 ∙ sym (mul-mul-mul_comm 2 g 2 d))
    ∙ ap (λ (z : ℕ). 2 * g * (2 * d) + z) (mul_left_comm d 2 l ∙ ap (λ (z : ℕ). 2 * z) (mul_comm d l) ∙ sym (mul_left_comm l 2 d))
    ∙ sym (add-mul (2 * g) l (2 * d)))

third_near : (g l : ℕ) → 0 < l → Near g ((2 * g + l) / (2 * l) * l) l
third_near g l L =
    let n = 2 * g + l in
    let u = 2 * l in
    ends g l (n / u * u) (n / u * l) (n % u) (mul_left_comm (n / u) 2 l) (div-add-mod' n u) (mod-lt n (mul-pos (zero-lt-suc 1) L))
  where
    ends : (g l q r s : ℕ) → q ≡ 2 * r → q + s ≡ 2 * g + l → s < 2 * l → Near g r l
    ends g l q r s e h k = (omega arith, omega arith)

-- ---- all three together, with every number times D and in the smallest values: dp is D * 2 ^ 125
chain : (hl a b r dp : ℕ) → Near hl (a * 100) (dp * 200) → Near (a * 16383) b (dp * 2 ^ 14) → Near b r (dp * 2 ^ 24) → Near (16383 * hl) (100 * r) (dp * (102 * 2 ^ 24))
chain hl a b r dp x y z = (omega arith, omega arith)

-- the scaled cents: their value, and how far the nearest whole number is
pub record Scaled (x : Float) : Type 0 where
  pub units : ℕ
  pub value : HasValue (scaled_of x) false units (2 ^ 149)
  pub small : units ≤ 2 ^ 164 + 2 ^ 139
  pub near : Near (16383 * num (hold_of x)) (100 * nearest_of (scaled_of x) * den (hold_of x)) (den (hold_of x) * 102)

pub scaled : (x : Float) → Scaled x
unfolding scaled_of
scaled x =
    let h = num (hold_of x) in
    let d = den (hold_of x) in
    let D : 0 < d = den_pos (hold_of x) in
    let l = 2 ^ 149 in
    let held = hold_value x in
    let c = d * 100 in
    let C : 0 < c = mul-pos D (zero-lt-suc 99) in
    let p : h ≤ c = le_trans held.1 (le_of_eq (mul_comm 100 d)) in
    let g = grid binary32 h c in
    let n1 = first_near h c p C in
    let m1 : 2 * g ≤ 2 ^ 150 + 2 ^ 126 = first_most h c g p C n1 in
    let q = div binary32 (hold_of x) hundred in
    let v1 : HasValue q false g l =
    subst (λ (z : Float). HasValue z false g l) (sym (div_hundred (hold_of x) h d D held.0))
    (round_val binary32 h c (lt_of_le_of_lt (self_le g (2 ^ 150 + 2 ^ 126) m1) (lit< tt))) in
    let a = g * 16383 in
    let A : a < 2 ^ 163 = product_lt g m1 in
    let k = grid binary32 a l in
    let n2 : Near a k (2 ^ 139) = second_near g A in
    let m2 : k ≤ 2 ^ 164 + 2 ^ 139 = second_most a k A n2 in
    let v2 : HasValue (mul binary32 q full) false k l =
    subst (λ (z : Float). HasValue z false k l) (sym (mul_value binary32 q full g l 16383 1 (pow_pos 149) (zero-lt-suc 0) v1 (refl, refl)))
    (round_val binary32 a l (lt_of_le_of_lt m2 (lit< tt))) in
    let r = (2 * k + l) / (2 * l) in
    let dp = d * 2 ^ 125 in
    let parts : (j : ℕ) → 2 ^ 125 * j * d ≡ dp * j = λ j. mul_comm (2 ^ 125 * j) d ∙ sym (mul_assoc d (2 ^ 125) j) in
    let s1 : Near (h * l) (g * d * 100) (dp * 200) =
    subst (λ (z : ℕ). Near (h * l) z (dp * 200)) (sym (mul_assoc g d 100))
    (subst (λ (z : ℕ). Near (h * l) (g * c) z) (mul_assoc d 100 (2 ^ 126) ∙ sym (mul_assoc d (2 ^ 125) 200)) n1) in
    let s2 : Near (g * d * 16383) (k * d) (dp * 2 ^ 14) =
    subst (λ (z : ℕ). Near z (k * d) (dp * 2 ^ 14)) (mul_right_comm g 16383 d)
    (subst (λ (z : ℕ). Near (a * d) (k * d) z) (parts (2 ^ 14)) (near_scale d a k (2 ^ 139) n2)) in
    let s3 : Near (k * d) (r * l * d) (dp * 2 ^ 24) =
    subst (λ (z : ℕ). Near (k * d) (r * l * d) z) (parts (2 ^ 24)) (near_scale d k (r * l) l (third_near k l (pow_pos 149))) in
    let s4 : Near (16383 * (h * l)) (100 * (r * l * d)) (dp * (102 * 2 ^ 24)) = chain (h * l) (g * d) (k * d) (r * l * d) dp s1 s2 s3 in
    let s5 : Near (16383 * h * l) (100 * r * d * l) (d * 102 * l) =
    subst (λ (z : ℕ). Near z (100 * r * d * l) (d * 102 * l)) (sym (mul_assoc 16383 h l))
    (subst (λ (z : ℕ). Near (16383 * (h * l)) z (d * 102 * l)) (ap (λ (z : ℕ). 100 * z) (mul_right_comm r l d) ∙ sym (mul_assoc 100 (r * d) l) ∙ ap (λ (z : ℕ). z * l) (sym (mul_assoc 100 r d)))
    (subst (λ (z : ℕ). Near (16383 * (h * l)) (100 * (r * l * d)) z) (mul_assoc d (2 ^ 125) (102 * 2 ^ 24) ∙ sym (mul_assoc d 102 l)) s4)) in
    record {
      units = k;
      value = v2;
      small = m2;
      near = subst (λ (z : ℕ). Near (16383 * h) (100 * z * d) (d * 102)) (sym (nearest_value (mul binary32 q full) k l (pow_pos 149) v2)) (near_cancel l (16383 * h) (100 * r * d) (d * 102) (pow_pos 149) s5);
    }

-- ---- the bounds
pub within_51 : (h : Float) (r : ℕ) → Near (16383 * num h) (100 * r * den h) (den h * 102) → Within51 h r
within_51 h r n = record { above = omega arith; under = omega arith }

pub at_most : (r h d : ℕ) → 0 < d → h ≤ 100 * d → Near (16383 * h) (100 * r * d) (d * 102) → r ≤ 16383
at_most r h d D p q = last r (le_of_mul-le-mul_right (most (100 * r * d) h d p q.1) D)
  where
    most : (x h d : ℕ) → h ≤ 100 * d → 2 * x ≤ 2 * (16383 * h) + d * 102 → x ≤ 1638351 * d
    most x h d p q = omega arith

    last : (r : ℕ) → 100 * r ≤ 1638351 → r ≤ 16383
    last r h = omega arith

-- ---- the floor of twice the number, and so with a half up
pub fitting : (x : Float) → T (fits binary64 (scaled_of x))
unfolding scaled_of
fitting x = fits_widens (mul binary32 (div binary32 (hold_of x) hundred) full) (mul-fits binary32 (div binary32 (hold_of x) hundred) full)

pub number : (x : Float) → T (not (is_nan (scaled_of x)))
number x = value_no_nan (scaled_of x) false (scaled x).units (2 ^ 149) (scaled x).value

pub halves : (x : Float) → (digits_of (to_bits binary64 (scaled_of x)) 1074 + 1) / 2 ≡ nearest_of (scaled_of x)
halves x =
    let s = scaled x in
    let k = s.units in
    let l = 2 ^ 149 in
    let h = digits_of (to_bits binary64 (scaled_of x)) 1074 in
    let twice : k * 2 / l ≡ h = bits_floor (scaled_of x) k l 1 1074 (fitting x) (pow_pos 149) s.value refl (lit≤ tt) (lt_of_le_of_lt (mul-le-mul_right 2 s.small) (lit< tt)) in
    sym (nearest_value (scaled_of x) k l (pow_pos 149) s.value
    ∙ sym (div-div-eq-div-mul (2 * k + l) l 2)
    ∙ ap (λ (z : ℕ). z / 2) (add-div_right (2 * k) (pow_pos 149) ∙ ap (λ (z : ℕ). z / l + 1) (mul_comm 2 k) ∙ ap (λ (z : ℕ). z + 1) twice))

pub top : (x : Float) → nearest_of (scaled_of x) ≤ 16383
top x = at_most (nearest_of (scaled_of x)) (num (hold_of x)) (den (hold_of x)) (den_pos (hold_of x)) (hold_value x).1 (scaled x).near
