-- Laws of words: a byte more of a count, of a start and of a word; a word in front of others.
-- Assumes nothing.
use mathlib.Core.Path.{◌≡◌, refl, ap, ◌∙◌}
use mathlib.Core.Bool.{Bool, cond, true, false, not}
use mathlib.Core.List.{List, [], ◌∷◌, ◌++◌}
use Prim.Native.Nat.{ℕ, suc, ◌+◌, ◌-◌, ◌≤◌, ◌<◌}
use native.Mathlib.Numerals.{add-one}
use native.Mathlib.Omega.{arith}
use lib.Dec.{eqb}
use lib.ListN.{length, take, drop, get_or, drop_of_length-le}
use lib.Seq.{drop-cons, take-append_seam, drop-append-add}
use borrow.Author.Tests.{ne_eqb, eq-eqb}
use Rattle.std.specs.List.{count_by, prefix_len}
use Rattle.std.proofs.lemmas.List.Recursion.{is_count_by, is_position_or_len}
use Rattle.util.specs.Pick.{pick}
use Rattle.desk_commands.specs.Words.{word_count, first_length, start_at, word_at}
use Rattle.desk_commands.specs.Promises.{Plain}

-- ---- a count

counted : (t : Bool) (n : ℕ) → pick t (suc n) n ≡ cond t (1 + n) n
counted true n = omega arith
counted false n = refl

pub count_is : (l : List ℕ) → word_count l ≡ count_by (λ b. eqb b 0) l
unfolding word_count
count_is = is_count_by word_count (λ b. eqb b 0) refl (λ b l. counted (eqb b 0) (word_count l))

-- ---- where a word begins

pub start_none : (l : List ℕ) → start_at l 0 ≡ 0
unfolding start_at
start_none [] = refl
start_none (b ∷ l) = refl

start_empty : (k : ℕ) → start_at [] k ≡ 0
unfolding start_at
start_empty k = refl

pub start_past : (s : List ℕ) (i k : ℕ) → length s ≤ i → start_at (drop i s) k ≡ 0
start_past s i k h = rw (drop_of_length-le s {i = i} h) (start_empty k)

start_more : (s : List ℕ) (i m : ℕ) → i < length s
    → start_at (drop i s) (suc m) ≡ suc (start_at (drop (i + 1) s) (pick (eqb (get_or s i 0) 0) m (suc m)))
unfolding start_at
start_more s i m h = rw (add-one i, drop-cons s i 0)

module _ (s : List ℕ) (i left : ℕ) (h : i < length s) (some : left ≡ 0 → ⊥) where
  more : start_at (drop i s) left ≡ suc (start_at (drop (i + 1) s) (pick (eqb (get_or s i 0) 0) (left - 1) (suc (left - 1))))
  more =
      let e : left ≡ suc (left - 1) = omega arith in
      ap (start_at (drop i s)) e ∙ start_more s i (left - 1) h

  -- behind a byte that ends a word
  pub start_end : get_or s i 0 ≡ 0 → start_at (drop i s) left ≡ suc (start_at (drop (i + 1) s) (left - 1))
  start_end e = rw (more, eq-eqb (get_or s i 0) 0 e)

  -- behind another byte
  pub start_inside : (get_or s i 0 ≡ 0 → ⊥) → start_at (drop i s) left ≡ suc (start_at (drop (i + 1) s) left)
  start_inside n =
      let e : suc (left - 1) ≡ left = omega arith in
      more
      ∙ ap (λ (t : Bool). suc (start_at (drop (i + 1) s) (pick t (left - 1) (suc (left - 1))))) (ne_eqb (get_or s i 0) 0 n)
      ∙ ap (λ (k : ℕ). suc (start_at (drop (i + 1) s) k)) e

-- ---- where a word ends

before : (t : Bool) (n : ℕ) → pick t 0 (suc n) ≡ cond t 0 (1 + n)
before true n = refl
before false n = omega arith

pub first_is : (l : List ℕ) → first_length l ≡ prefix_len (λ b. not (eqb b 0)) l
unfolding first_length
first_is = is_position_or_len first_length (λ b. eqb b 0) refl (λ b l. before (eqb b 0) (first_length l))

-- the part from a start to its end
pub word_part : (s : List ℕ) (n a e : ℕ) → a ≡ start_at s n → e ≡ a + first_length (drop a s) → take (e - a) (drop a s) ≡ word_at s n
unfolding word_at
word_part s n a e p q =
    let d : e - a ≡ first_length (drop a s) = omega arith in
    ap (λ (k : ℕ). take k (drop a s)) d ∙ ap (λ (b : ℕ). take (first_length (drop b s)) (drop b s)) p

-- ---- a word in front of others

pub count_front : (w r : List ℕ) → Plain w → word_count (w ++ 0 ∷ r) ≡ suc (word_count r)
unfolding word_count
count_front [] r p = refl
count_front (b ∷ w) r p = rw (ne_eqb b 0 p.0) (count_front w r p.1)

first_front : (w r : List ℕ) → Plain w → first_length (w ++ 0 ∷ r) ≡ length w
unfolding first_length
first_front [] r p = refl
first_front (b ∷ w) r p = rw (ne_eqb b 0 p.0) (ap suc (first_front w r p.1))

start_front : (n : ℕ) (w r : List ℕ) → Plain w → start_at (w ++ 0 ∷ r) (suc n) ≡ length w + suc (start_at r n)
unfolding start_at
start_front n [] r p = omega arith
start_front n (b ∷ w) r p = rw (ne_eqb b 0 p.0) (omega (arith, start_front n w r p.1))

pub word_front : (w r : List ℕ) → Plain w → word_at (w ++ 0 ∷ r) 0 ≡ w
unfolding word_at
word_front w r p =
    ap (λ (a : ℕ). take (first_length (drop a (w ++ 0 ∷ r))) (drop a (w ++ 0 ∷ r))) (start_none (w ++ 0 ∷ r))
    ∙ ap (λ (k : ℕ). take k (w ++ 0 ∷ r)) (first_front w r p)
    ∙ take-append_seam w (0 ∷ r)

pub word_behind : (n : ℕ) (w r : List ℕ) → Plain w → word_at (w ++ 0 ∷ r) (suc n) ≡ word_at r n
unfolding word_at
word_behind n w r p =
    let e : drop (start_at (w ++ 0 ∷ r) (suc n)) (w ++ 0 ∷ r) ≡ drop (start_at r n) r =
    ap (λ (k : ℕ). drop k (w ++ 0 ∷ r)) (start_front n w r p) ∙ drop-append-add w (0 ∷ r) (suc (start_at r n)) in
    ap (λ (l : List ℕ). take (first_length l) l) e

pub word_none : (n : ℕ) → word_at [] n ≡ []
unfolding word_at first_length
word_none n = rw (start_empty n)
