-- Laws of stretches: a byte that ends one, a byte more, the end of the text.
-- Assumes nothing.
use mathlib.Core.Path.{◌≡◌, refl, ap, ◌∙◌}
use mathlib.Core.Bool.{Bool, true, false, cond, not}
use mathlib.Core.List.{List, [], ◌∷◌}
use Prim.Native.Nat.{ℕ, suc, ◌+◌, ◌≤◌, ◌<◌}
use native.Mathlib.Numerals.{add-one}
use native.Mathlib.Omega.{arith}
use lib.ListN.{length, drop, get_or, drop_of_length-le}
use lib.Seq.{drop-cons}
use Rattle.std.specs.Prelude.{Option, Some, None, IfSome}
use Rattle.std.specs.Option.{unwrap_or}
use Rattle.std.specs.List.{position_or_len}
use lib.Dec.{ltb}
use borrow.Author.Tests.{ltb-false}
use Rattle.util.specs.Pick.{pick}
use Rattle.desk_text.specs.Spans.{is_blank, span}
use Rattle.desk_text.specs.Lines.{begins_comment, said_length}

-- the length of the front that does not pass a test is the place that a search finds, or the length
turn : (t : Bool) (m n : ℕ) → m ≡ n → cond (not t) (1 + m) 0 ≡ pick t 0 (suc n)
turn true m n e = refl
turn false m n e = omega arith

span_is : (p : ℕ → Bool) (l : List ℕ) → position_or_len p l ≡ span p l
unfolding span
span_is p [] = refl
span_is p (b ∷ l) = turn (p b) (position_or_len p l) (span p l) (span_is p l)

pick_most : (t : Bool) (n m : ℕ) → n ≤ m → pick t 0 (suc n) ≤ suc m
pick_most true n m h = omega arith
pick_most false n m h = omega arith

pub span_most : (p : ℕ → Bool) (l : List ℕ) → span p l ≤ length l
unfolding span
span_most p [] = omega arith
span_most p (b ∷ l) = pick_most (p b) (span p l) (length l) (span_most p l)

found : (t : Bool) (n m : ℕ) → n ≤ m → ltb n m ≡ t → unwrap_or (cond t (Some n) None) m ≡ n
found true n m h e = refl
found false n m h e = omega (arith, ltb-false n m e)

pub span_found : (p : ℕ → Bool) (l : List ℕ) (r : Option ℕ) → r ≡ cond (ltb (position_or_len p l) (length l)) (Some (position_or_len p l)) None
    → unwrap_or r (length l) ≡ span p l
span_found p l r e =
    let n = position_or_len p l in
    let h : n ≤ length l = omega (arith, span_is p l, span_most p l) in
    ap (λ (o : Option ℕ). unwrap_or o (length l)) e ∙ found (ltb n (length l)) n (length l) h refl ∙ span_is p l

pub found_within : (r : Option ℕ) (m n : ℕ) → m ≡ n → IfSome r (λ i. i < m) → unwrap_or r n ≤ n
found_within (Some i) m n e h = omega (arith, h)
found_within None m n e h = omega arith

pub said_past : (t : Bool) (s : List ℕ) (i : ℕ) → length s ≤ i → said_length t (drop i s) ≡ 0
unfolding said_length
said_past t s i h = rw (drop_of_length-le s {i = i} h)

module _ (m : Bool) (s : List ℕ) (i : ℕ) (h : i < length s) where
  pub said_stop : begins_comment m (get_or s i 0) ≡ true → said_length m (drop i s) ≡ 0
  unfolding said_length
  said_stop t = rw (drop-cons s i 0, t)

  pub said_more : begins_comment m (get_or s i 0) ≡ false
      → said_length m (drop i s) ≡ suc (said_length (is_blank (get_or s i 0)) (drop (i + 1) s))
  unfolding said_length
  said_more t = rw (add-one, drop-cons s i 0, t)
