-- What `split_rate` returns, on plain values: the rest is exact, the digits of the rate and of the rest are its parts, and any fraction that a rate equals gives the same parts.
-- Assumes nothing.
use mathlib.Core.Path.{◌≡◌, refl, sym, ap, ap₂, ◌∙◌, subst}
use Prim.Native.Nat.{ℕ, ◌+◌, ◌*◌, ◌/◌, ◌%◌, ◌^◌, ◌≤◌, ◌<◌}
use native.Mathlib.Nat.{le_trans, le_of_eq, le_of_lt, lt_of_lt_of_le, lt_of_le_of_lt, zero-mul, zero-div, zero-mod, mul-pos, mul-one, mul_comm, mul_right_comm, add-mul, add_comm, mul-le-mul_right, mul-lt-mul_of_pos_right, lt_of_mul-lt-mul_right, le_of_mul-le-mul_right, div-add-mod', div-lt_iff_lt-mul, add-mul-div_right, mod-lt}
use native.Mathlib.Omega.{arith}
use mathlib.Core.Bool.{Bool, true, false, not, cond, true≢false}
use lib.IntN.{ℤ, pos}
use lib.Dec.{T, ltb, ltb→lt, nltb→le, lit≤}
use lib.Pow.{pow_pos}
use lib.Ieee.{Float, nan, inf, fin, binary64, up, down, sub, of_int, lt, fits, is_nan, to_bits}
use lib.Ieee.Fits.{down_pos, sub-fits}
use lib.Ieee.Exact.{HasValue}
use lib.Ieee.Nearest.{div_same}
use borrow.Author.Tests.{lt-ltb, le-ltb, ltb-true, ltb-false}
use Rattle.std.specs.Prelude.{Err}
use Rattle.util.specs.declared.refusal.Refusal.TheVariants.{Value}
use Rattle.rates.specs.Digits.{digits_of}
use Rattle.rates.specs.Rate.{pair, parts_of, split_of}
use Rattle.rates.proofs.Values.{rest_value}
use Rattle.rates.proofs.Bits.{bits_floor, value_no_nan}

-- 0
abbrev pub nought : Float
nought = fin false 0 (pos 0)

-- 2 ^ 28
abbrev pub step : Float
step = fin false 1 (pos 28)

-- ---- the parts of a / d
pub in_range : (a d : ℕ) → a < 2 ^ 28 * d → pair (a / d) (a % d * 2 ^ 28 / d) ≡ parts_of a d
in_range a d h = sym (ap (λ (b : Bool). cond b (pair (a / d) (a % d * 2 ^ 28 / d)) (Err Value)) (lt-ltb a (2 ^ 28 * d) h))

pub past_range : (a d : ℕ) → 2 ^ 28 * d ≤ a → Err Value ≡ parts_of a d
past_range a d h = sym (ap (λ (b : Bool). cond b (pair (a / d) (a % d * 2 ^ 28 / d)) (Err Value)) (le-ltb a (2 ^ 28 * d) h))

-- the floor of p times a / d, by the whole part and the rest
pub floor : (a d p : ℕ) → 0 < d → a * p / d ≡ a / d * p + a % d * p / d
floor a d p D =
    ap (λ (z : ℕ). z * p / d) (sym (div-add-mod' a d) ∙ add_comm (a / d * d) (a % d))
    ∙ ap (λ (z : ℕ). z / d) (add-mul (a % d) (a / d * d) p ∙ ap (λ (z : ℕ). a % d * p + z) (mul_right_comm (a / d) d p))
    ∙ add-mul-div_right (a % d * p) (a / d * p) D
    ∙ add_comm (a % d * p / d) (a / d * p)

-- the rest is less than 1, so it has fewer than 2 ^ 28 parts
pub rest_small : (a d : ℕ) → 0 < d → a % d * 2 ^ 28 < 2 ^ 28 * d
rest_small a d D = lt_of_lt_of_le (mul-lt-mul_of_pos_right (mod-lt a D) (pow_pos 28)) (le_of_eq (mul_comm d (2 ^ 28)))

-- ---- what the code works out from the whole part w

-- the rest, as the code subtracts it
abbrev pub rest : Float → ℕ → Float
rest x w = sub binary64 x (of_int binary64 (pos w))

-- w and the digits of the rest are the parts of the rate x
pub record Split (x : Float) (w : ℕ) : Type 0 where
  pub small : w < 2 ^ 28
  pub number : T (not (is_nan (rest x w)))
  pub small2 : digits_of (to_bits binary64 (rest x w)) 1047 < 2 ^ 28
  pub is : pair w (digits_of (to_bits binary64 (rest x w)) 1047) ≡ split_of x

whole : (m : ℕ) (e : ℤ) → parts_of (m * up e) (down e) ≡ split_of (fin false m e)
unfolding split_of
whole m e = refl

inner : (m : ℕ) (e : ℤ) → T (fits binary64 (fin false m e)) → m * up e < 2 ^ 28 * down e → Split (fin false m e) (m * up e / down e)
inner m e t h =
    let a = m * up e in
    let d = down e in
    let D : 0 < d = down_pos e in
    let w = a / d in
    let W : w < 2 ^ 28 = (div-lt_iff_lt-mul D).1 h in
    let x = fin false m e in
    let y = rest x w in
    let q = a % d * 2 ^ 28 in
    let v : HasValue y false (a % d) d = rest_value binary64 m e t (le_of_lt (lt_of_lt_of_le W (lit≤ tt))) in
    let Q : q < 2 ^ 28 * d = rest_small a d D in
    let X : q / d < 2 ^ 28 = (div-lt_iff_lt-mul D).1 Q in
    let c : digits_of (to_bits binary64 y) 1047 ≡ q / d = sym (bits_floor y (a % d) d 28 1047 (sub-fits binary64 x (of_int binary64 (pos w))) D v refl (lit≤ tt) (lt_of_lt_of_le Q (mul-le-mul_right d (lit≤ tt)))) in
    record {
      small = W;
      number = value_no_nan y false (a % d) d v;
      small2 = subst (λ (z : ℕ). z < 2 ^ 28) (sym c) X;
      is = ap (λ (z : ℕ). pair w z) c ∙ in_range a d h ∙ whole m e;
    }

-- ---- the three ways, by the two tests
no : {A : Type 0} → false ≡ true → A
no p = absurd (true≢false (sym p))

ones : (a d : ℕ) → a * 1 < 1 * 2 ^ 28 * d → a < 2 ^ 28 * d
ones a d h = omega arith

-- above 0 and below 2 ^ 28
pub split : (x : Float) (w : ℕ) → T (fits binary64 x) → lt x step ≡ true → lt nought x ≡ true → w ≡ digits_of (to_bits binary64 x) 1075 → Split x w
unfolding lt
split nan w t p q r = no q
split (inf true) w t p q r = no q
split (inf false) w t p q r = no p
split (fin true m e) w t p q r = no q
split (fin false m e) w t p q r =
    let a = m * up e in
    let d = down e in
    let h : a < 2 ^ 28 * d = ones a d (ltb-true (a * 1) (1 * 2 ^ 28 * d) p) in
    let k : a * 1 < 2 ^ 53 * d = lt_of_le_of_lt (le_of_eq (mul-one a)) (lt_of_lt_of_le h (mul-le-mul_right d (lit≤ tt))) in
    subst (λ (z : ℕ). Split (fin false m e) z) (sym (r ∙ sym (bits_floor (fin false m e) a d 0 1075 t (down_pos e) (refl, refl) refl (lit≤ tt) k) ∙ ap (λ (z : ℕ). z / d) (mul-one a))) (inner m e t h)

pub number : (x : Float) → lt x step ≡ true → T (not (is_nan x))
unfolding lt is_nan
number nan p = no p
number (inf s) p = tt
number (fin s m e) p = tt

zero_parts : (d : ℕ) → 0 < d → pair 0 0 ≡ parts_of 0 d
zero_parts d D =
    ap (λ (y : ℕ). pair y 0) (sym (zero-div d))
    ∙ ap (λ (y : ℕ). pair (0 / d) y) (sym (ap (λ (y : ℕ). y * 2 ^ 28 / d) (zero-mod d) ∙ ap (λ (y : ℕ). y / d) (zero-mul (2 ^ 28)) ∙ zero-div d))
    ∙ in_range 0 d (mul-pos (pow_pos 28) D)

-- not above 0
pub none : (x : Float) → lt x step ≡ true → lt nought x ≡ false → pair 0 0 ≡ split_of x
unfolding lt split_of
none nan p q = no p
none (inf true) p q = refl
none (inf false) p q = no p
none (fin true m e) p q = refl
none (fin false m e) p q =
    let z : m * up e ≡ 0 = nothing (m * up e) (down e) (ltb-false (0 * down e) (m * up e * 1) q) in
    zero_parts (down e) (down_pos e) ∙ ap (λ (y : ℕ). parts_of y (down e)) (sym z)
  where
    nothing : (a d : ℕ) → a * 1 ≤ 0 * d → a ≡ 0
    nothing a d h = omega arith

-- not below 2 ^ 28
pub refused : (x : Float) → lt x step ≡ false → Err Value ≡ split_of x
unfolding lt split_of
refused nan p = refl
refused (inf true) p = absurd (true≢false p)
refused (inf false) p = refl
refused (fin true m e) p = absurd (over (m * up e) (down e) (down_pos e) (ltb-false 0 (m * up e * 1 + 1 * 2 ^ 28 * down e) p))
  where
    over : (a d : ℕ) → 0 < d → a * 1 + 1 * 2 ^ 28 * d ≤ 0 → ⊥
    over a d D h = omega arith
refused (fin false m e) p = past_range (m * up e) (down e) (all (m * up e) (down e) (ltb-false (m * up e * 1) (1 * 2 ^ 28 * down e) p))
  where
    all : (a d : ℕ) → 1 * 2 ^ 28 * d ≤ a * 1 → 2 ^ 28 * d ≤ a
    all a d h = omega arith

-- ---- the same by any fraction a / c that the rate equals
below_too : (a d b c : ℕ) → 0 < c → a * c ≡ b * d → 0 < d → b < 2 ^ 28 * c → a < 2 ^ 28 * d
below_too a d b c C e D h =
    lt_of_mul-lt-mul_right c
    (lt_of_le_of_lt (le_of_eq e) (lt_of_lt_of_le (mul-lt-mul_of_pos_right h D) (le_of_eq (mul_right_comm (2 ^ 28) c d))))

not_below : (a d b c : ℕ) → 0 < c → a * c ≡ b * d → 2 ^ 28 * c ≤ b → 2 ^ 28 * d ≤ a
not_below a d b c C e h = le_of_mul-le-mul_right (le_trans (le_of_eq (mul_right_comm (2 ^ 28) d c)) (le_trans (mul-le-mul_right d h) (le_of_eq (sym e)))) C

rests : (q a d r b c s : ℕ) → q * d + r ≡ a → q * c + s ≡ b → a * c ≡ b * d → r * c ≡ s * d
rests q a d r b c s x y e =
    cancel (q * d * c) (q * c * d) (r * c) (s * d)
    (sym (add-mul (q * d) r c) ∙ ap (λ (z : ℕ). z * c) x ∙ e ∙ ap (λ (z : ℕ). z * d) (sym y) ∙ add-mul (q * c) s d)
    (mul_right_comm q d c)
  where
    cancel : (x y u v : ℕ) → x + u ≡ y + v → x ≡ y → u ≡ v
    cancel x y u v h k = omega arith

parts_same : (a d b c : ℕ) → 0 < d → 0 < c → a * c ≡ b * d → parts_of a d ≡ parts_of b c
parts_same a d b c D C e = go (ltb b (2 ^ 28 * c)) (ltb→lt b (2 ^ 28 * c)) (nltb→le b (2 ^ 28 * c))
  where
    w : a / d ≡ b / c
    w = div_same a d b c D C e

    r : a % d * c ≡ b % c * d
    r = rests (a / d) a d (a % d) b c (b % c) (div-add-mod' a d) (ap (λ (z : ℕ). z * c + b % c) w ∙ div-add-mod' b c) e

    f : a % d * 2 ^ 28 / d ≡ b % c * 2 ^ 28 / c
    f = div_same (a % d * 2 ^ 28) d (b % c * 2 ^ 28) c D C (mul_right_comm (a % d) (2 ^ 28) c ∙ ap (λ (z : ℕ). z * 2 ^ 28) r ∙ mul_right_comm (b % c) d (2 ^ 28))

    go : (t : Bool) → (T t → b < 2 ^ 28 * c) → (T (not t) → 2 ^ 28 * c ≤ b) → parts_of a d ≡ parts_of b c
    go true p q = sym (in_range a d (below_too a d b c C e D (p tt))) ∙ ap₂ pair w f ∙ in_range b c (p tt)
    go false p q = sym (past_range a d (not_below a d b c C e (q tt))) ∙ past_range b c (q tt)

pub parts_value : (x : Float) (a c : ℕ) → 0 < c → HasValue x false a c → split_of x ≡ parts_of a c
parts_value nan a c C v = absurd v
parts_value (inf s) a c C v = absurd v
parts_value (fin true m e) a c C v = absurd (true≢false v.0)
parts_value (fin false m e) a c C v = sym (whole m e) ∙ parts_same (m * up e) (down e) a c (down_pos e) C v.1
