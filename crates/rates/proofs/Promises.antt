-- The theorems of the promises (specs/Promises.antt), each under its promise's words.
-- Assumes nothing.
use mathlib.Core.Path.{◌≡◌, refl, sym, ap, ap₂, ◌∙◌, subst}
use mathlib.Core.Bool.{Bool, true, false, not, cond, true≢false}
use Prim.Native.Nat.{ℕ, ◌+◌, ◌*◌, ◌/◌, ◌%◌, ◌^◌, ◌≤◌, ◌<◌}
use native.Mathlib.Nat.{div-lt_iff_lt-mul}
use native.Mathlib.Omega.{arith}
use lib.Dec.{T, ltb, ltb→lt, nltb→le, lit<}
use lib.Pow.{pow_pos, high, low}
use lib.Ieee.{Float, nan, inf, fin, up, down, lt, round, size, span, climb, odd, units, mul, div}
use lib.Ieee.Fits.{down_pos}
use Rattle.std.specs.Prelude.{Err}
use Rattle.util.specs.declared.refusal.Refusal.TheVariants.{Value}
use Rattle.rates.specs.Rate.{pair, parts_of, split_of, SplitNumbers, numbers_of, total, join_of}
use Rattle.rates.specs.Cents.{hold_of, scaled_of, nearest_of, cents_of}
use Rattle.rates.specs.Promises.{SplitParts, SplitBelowZero, SplitRefused, SplitFits, Units, Within4, JoinNear, JoinExact, JoinFourAttained, JoinSplit, JoinFirstOther, JoinTopRefused, CentsHeld, CentsNear, CentsTop, CentsNan, CentsHalf, Worked}
use Rattle.rates.proofs.Split.{floor, rest_small, in_range, past_range, parts_value}
use Rattle.rates.proofs.Join.{held_exactly, within, joined}
use Rattle.rates.proofs.Cents.{hold_value, scaled, within_51, top}

-- ---- a rate, split

pub split_parts : SplitParts
split_parts x a c C v h = record {
  answer = ap numbers_of (parts_value x a c C v ∙ sym (in_range a c h));
  whole_fits = (div-lt_iff_lt-mul C).1 h;
  fraction_fits = (div-lt_iff_lt-mul C).1 (rest_small a c C);
  floor = sym (floor a c (2 ^ 28) C);
}

pub split_below_zero : SplitBelowZero
unfolding split_of
split_below_zero nan p = absurd p
split_below_zero (inf true) p = refl
split_below_zero (inf false) p = absurd (true≢false (sym p))
split_below_zero (fin true m e) p = refl
split_below_zero (fin false m e) p = absurd (true≢false (sym p))

not_3 : (w f : ℕ) → numbers_of (pair w f) ≡ numbers_of (Err Value) → ⊥
not_3 w f p = zero_three (ap (λ (n : SplitNumbers). n.number) p)
  where
    zero_three : ◌≡◌ {A = ℕ} 0 3 → ⊥
    zero_three h = omega arith

refused_only : (a d : ℕ) → numbers_of (parts_of a d) ≡ numbers_of (Err Value) → 2 ^ 28 * d ≤ a
refused_only a d = go (ltb a (2 ^ 28 * d)) (nltb→le a (2 ^ 28 * d))
  where
    go : (b : Bool) → (T (not b) → 2 ^ 28 * d ≤ a) → numbers_of (cond b (pair (a / d) (a % d * 2 ^ 28 / d)) (Err Value)) ≡ numbers_of (Err Value) → 2 ^ 28 * d ≤ a
    go true h p = absurd (not_3 (a / d) (a % d * 2 ^ 28 / d) p)
    go false h p = h tt

pub split_refused : SplitRefused
unfolding split_of
split_refused nan = (λ p. tt, λ q. refl)
split_refused (inf true) = (λ p. absurd (not_3 0 0 p), λ q. absurd (true≢false q))
split_refused (inf false) = (λ p. refl, λ q. refl)
split_refused (fin true m e) = (λ p. absurd (not_3 0 0 p), λ q. absurd (true≢false q.0))
split_refused (fin false m e) = (λ p. (refl, refused_only (m * up e) (down e) p), λ q. ap numbers_of (sym (past_range (m * up e) (down e) q.1)))

-- a pair has one whole part and one fraction
pair_same : (w f u v : ℕ) → pair w f ≡ pair u v → (w ≡ u) × (f ≡ v)
pair_same w f u v p = let n = ap numbers_of p in (ap (λ (s : SplitNumbers). s.whole) n, ap (λ (s : SplitNumbers). s.fraction) n)

small : (w f : ℕ) → pair 0 0 ≡ pair w f → (w < 2 ^ 28) × (f < 2 ^ 28)
small w f p =
    let e = pair_same 0 0 w f p in (omega arith, omega arith)

never : (w f : ℕ) → Err Value ≡ pair w f → ⊥
never w f p = let z : ◌≡◌ {A = ℕ} 0 1 = cc in omega arith

fit_parts : (a c w f : ℕ) → 0 < c → parts_of a c ≡ pair w f → (w < 2 ^ 28) × (f < 2 ^ 28)
fit_parts a c w f C = go (ltb a (2 ^ 28 * c)) (ltb→lt a (2 ^ 28 * c))
  where
    go : (b : Bool) → (T b → a < 2 ^ 28 * c) → cond b (pair (a / c) (a % c * 2 ^ 28 / c)) (Err Value) ≡ pair w f → (w < 2 ^ 28) × (f < 2 ^ 28)
    go true h p =
        let e = pair_same (a / c) (a % c * 2 ^ 28 / c) w f p in
        (subst (λ (z : ℕ). z < 2 ^ 28) e.0 ((div-lt_iff_lt-mul C).1 (h tt)), subst (λ (z : ℕ). z < 2 ^ 28) e.1 ((div-lt_iff_lt-mul C).1 (rest_small a c C)))
    go false h p = absurd (never w f p)

pub split_fits : SplitFits
unfolding split_of
split_fits nan w f p = absurd (never w f p)
split_fits (inf true) w f p = small w f p
split_fits (inf false) w f p = absurd (never w f p)
split_fits (fin true m e) w f p = small w f p
split_fits (fin false m e) w f p = fit_parts (m * up e) (down e) w f (down_pos e) p

-- ---- a pair, joined

under56 : (w f : ℕ) → w < 2 ^ 28 → f < 2 ^ 28 → w * 2 ^ 28 + f < 2 ^ 56
under56 w f a b = omega arith

pub join_near : JoinNear
join_near w f a b = subst (λ (z : Float). Within4 z (total w f)) (joined w f) (within (total w f) (under56 w f a b))

exact : (w f : ℕ) → total w f ≤ 2 ^ 53 → Units (join_of w f) (total w f)
exact w f h = subst (λ (z : Float). Units z (total w f)) (joined w f) (held_exactly (total w f) h)

pub join_exact : JoinExact
join_exact w f a b = exact w f (omega arith)

pub join_four_attained : JoinFourAttained
unfolding join_of round units odd size span climb
join_four_attained = (refl, refl)

pair_at : (w f : ℕ) → w < 2 ^ 28 → f < 2 ^ 28 → parts_of (total w f) (2 ^ 28) ≡ pair w f
pair_at w f a b =
    sym (in_range (total w f) (2 ^ 28) (under56 w f a b))
    ∙ ap₂ pair (high w 28 b) (ap (λ (z : ℕ). z * 2 ^ 28 / 2 ^ 28) (low w 28 b) ∙ same f)
  where
    same : (f : ℕ) → f * 2 ^ 28 / 2 ^ 28 ≡ f
    same f = omega arith

back : (w f : ℕ) → w < 2 ^ 28 → f < 2 ^ 28 → total w f ≤ 2 ^ 53 → split_of (join_of w f) ≡ pair w f
back w f a b h = parts_value (join_of w f) (total w f) (2 ^ 28) (pow_pos 28) (exact w f h) ∙ pair_at w f a b

pub join_split : JoinSplit
join_split w f a b = back w f (omega arith) b (omega arith)

pub join_first_other : JoinFirstOther
unfolding split_of join_of round units odd size span climb
join_first_other = record { smaller = λ w f b h. back w f (whole w f h) b (last w f h); other = refl }
  where
    whole : (w f : ℕ) → w * 2 ^ 28 + f < 33554432 * 2 ^ 28 + 1 → w < 2 ^ 28
    whole w f h = omega arith

    last : (w f : ℕ) → w * 2 ^ 28 + f < 33554432 * 2 ^ 28 + 1 → w * 2 ^ 28 + f ≤ 2 ^ 53
    last w f h = omega arith

pub join_top_refused : JoinTopRefused
unfolding split_of join_of round units odd size span climb
join_top_refused = refl

-- ---- cents

pub cents_held : CentsHeld
cents_held x = hold_value x

pub cents_near : CentsNear
cents_near x = within_51 (hold_of x) (cents_of x) (scaled x).near

pub cents_top : CentsTop
cents_top x = top x

pub cents_nan : CentsNan
unfolding nearest_of scaled_of hold_of mul div round units odd size span climb
cents_nan = refl

pub cents_half : CentsHalf
unfolding nearest_of scaled_of hold_of lt mul div round units odd size span climb
cents_half = record { scaled = refl; answer = refl; past_50 = lit< tt }

-- ---- worked out

pub worked : Worked
unfolding split_of
worked = record { split = refl; bytes = refl }
