-- Laws of digits: one more digit, up to the most.
-- Assumes nothing.
use mathlib.Core.Path.{◌≡◌, refl, ap, ◌∙◌}
use mathlib.Core.Bool.{Bool, true, false, ◌&&◌}
use mathlib.Core.List.{List, [], ◌∷◌}
use Prim.Native.Nat.{ℕ, zero, suc, ◌+◌, ◌*◌, ◌-◌, ◌≤◌, ◌<◌, min}
use native.Mathlib.Numerals.{add-one}
use native.Mathlib.Omega.{arith, min_cases}
use lib.ListN.{length, drop, get_or}
use lib.Dec.{leb}
use borrow.Author.Tests.{leb-true, leb-false}
use mathlib.Core.Logic.{◌⊎◌, inl, inr, ⊎_elim}
use Rattle.desk_text.specs.Spans.{is_digit}
use Rattle.desk_text.specs.Cents.{most, value_after, padded}

pub value_least : (n : ℕ) (l : List ℕ) → n ≤ value_after n l
unfolding value_after
value_least n [] = omega arith
value_least n (b ∷ l) = let h = value_least (n * 10 + (b - 48)) l in omega arith

-- a number that is held at the most before its digits is held there behind them
pub held_before : (n : ℕ) (l : List ℕ) → min (value_after (min n most) l) most ≡ min (value_after n l) most
held_before n l =
    min_cases n most (min (value_after (min n most) l) most ≡ min (value_after n l) most)
    (λ p e. ap (λ (m : ℕ). min (value_after m l) most) e)
    (λ q e. let a = value_least (min n most) l in let b = value_least n l in omega arith)

padded_at : (s : List ℕ) (i k : ℕ) → padded (suc k) (drop i s) ≡ get_or s i 48 ∷ padded k (drop (suc i) s)
unfolding padded
padded_at [] zero k = refl
padded_at [] (suc i) k = refl
padded_at (b ∷ s) zero k = refl
padded_at (b ∷ s) (suc i) k = padded_at s i k

pub padded_all : (s : List ℕ) → padded (length s) s ≡ s
unfolding padded
padded_all [] = refl
padded_all (b ∷ s) = ap (λ (l : List ℕ). b ∷ l) (padded_all s)

-- the digits that are left from a place on, where some are
pub padded_turn : (s : List ℕ) (count i : ℕ) → i < count
    → padded (count - i) (drop i s) ≡ get_or s i 48 ∷ padded (count - (i + 1)) (drop (i + 1) s)
padded_turn s count i h =
    let e : count - i ≡ suc (count - (i + 1)) = omega arith in
    rw (e, add-one) (padded_at s i (count - suc i))

-- no digit is left
pub padded_none : (v count i : ℕ) (l : List ℕ) → v ≤ most → count ≤ i → min (value_after v (padded (count - i) l)) most ≡ v
unfolding value_after padded
padded_none v count i l h k =
    let e : count - i ≡ 0 = omega arith in
    rw e (omega arith)

-- digits and decimals, one after the other
pub joined_value : (whole decimals : List ℕ) (a b : ℕ) → a ≡ min (value_after 0 (padded (length whole) whole)) most
    → b ≡ min (value_after a (padded 13 decimals)) most → b ≡ min (value_after (value_after 0 whole) (padded 13 decimals)) most
joined_value whole decimals a b p q =
    q ∙ ap (λ (m : ℕ). min (value_after m (padded 13 decimals)) most) (p ∙ ap (λ (l : List ℕ). min (value_after 0 l) most) (padded_all whole))
    ∙ held_before (value_after 0 whole) (padded 13 decimals)

pub and_left : (a b : Bool) → (a && b) ≡ true → a ≡ true
and_left true b h = refl
and_left false b h = h

pub and_right : (a b : Bool) → (a && b) ≡ true → b ≡ true
and_right true b h = h
and_right false b h = let z : ◌≡◌ {A = Bool} false true = h in let n : ◌≡◌ {A = ℕ} 0 1 = cc in absurd (omega arith)

pub either : (t : Bool) → (t ≡ true) ⊎ (t ≡ false)
either true = inl refl
either false = inr refl

-- the bounds of a digit
pub digit_least : (b : ℕ) → is_digit b ≡ true → 48 ≤ b
unfolding is_digit
digit_least b h = leb-true 48 b (and_left (leb 48 b) (leb b 57) h)

pub digit_most : (b : ℕ) → is_digit b ≡ true → b ≤ 57
unfolding is_digit
digit_most b h = leb-true b 57 (and_right (leb 48 b) (leb b 57) h)

-- a byte that is no digit is below all of them, or above
pub not_digit : (b : ℕ) → is_digit b ≡ false → (b < 48) ⊎ ((48 ≤ b) × (57 < b))
unfolding is_digit
not_digit b h =
    ⊎_elim
    (λ t. inr (leb-true 48 b t, leb-false b 57 (rw t at h)))
    (λ t. inl (leb-false 48 b t))
    (either (leb 48 b))

-- one digit more, and the digits behind it
pub turned : (v : ℕ) (s : List ℕ) (count i : ℕ) → i < count
    → min (value_after (v * 10 + (get_or s i 48 - 48)) (padded (count - (i + 1)) (drop (i + 1) s))) most
    ≡ min (value_after v (padded (count - i) (drop i s))) most
unfolding value_after
turned v s count i h = rw (padded_turn s count i h)
