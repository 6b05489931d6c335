-- Four letters, a file type and a URL, by place.
-- Assumes nothing.
use mathlib.Core.Path.{◌≡◌, refl, sym, ap, ◌∙◌}
use mathlib.Core.Bool.{Bool, true, false, ◌&&◌, cond}
use mathlib.Core.Option as maybe
use mathlib.Core.Option.{some}
use mathlib.Core.List.{List, [], ◌∷◌}
use Prim.Native.Nat.{ℕ, zero, suc, ◌+◌, ◌-◌, ◌<◌, ◌≤◌}
use native.Mathlib.Omega.{arith}
use lib.Dec.{eqb, ltb}
use lib.ListN.{length, take, drop, length-drop}
use lib.Pointwise.{pointwise}
use lib.Seq.{drop-drop, length-take-le}
use borrow.Author.Tests.{lt-ltb, le-leb, lt-leb, ltb-true, ltb-false, ne_eqb}
use Rattle.std.specs.Prelude.{◌==◌, Option, Some, None, position}
use Rattle.std.specs.List.{position_or_len}
use Rattle.std.proofs.lemmas.Option.{none-some, same_Some}
use Rattle.util.specs.Groups.{Seven}
use Rattle.util.specs.Limits.{most_url}
use Rattle.util.proofs.Laws.Groups.{seven_drop}
use Rattle.util.proofs.Laws.Splice.{tail_drop}
use Rattle.util.specs.Options.{only_if}
use Rattle.messages.specs.declared.file_reference.FileReferenceType.{FileReferenceType}
use Rattle.messages.specs.format.Core.{bad, got}
use Rattle.messages.specs.format.Sequence.{strip}
use Rattle.messages.specs.format.Texts.{up_to_zero, read_text}
use Rattle.read_file_reference.specs.Texts.{first_zero, Ends}
use Rattle.read_file_reference.specs.Files.{Names}

-- a list begins with these letters just where they are stripped from it
and_also : {A : Type 0} (t u : Bool) (o : maybe.Option A) → only_if (t && u) o ≡ only_if t (only_if u o)
and_also true u o = refl
and_also false u o = refl

pub starts_strip : (p l : List ℕ) → only_if (pointwise eqb p (take (length p) l)) (some (drop (length p) l)) ≡ strip p l
starts_strip [] l = refl
starts_strip (c ∷ p) [] = refl
starts_strip (c ∷ p) (b ∷ l) = and_also (eqb c b) (pointwise eqb p (take (length p) l)) (some (drop (length p) l)) ∙ ap (only_if (eqb c b)) (starts_strip p l)

pub starts_at : (f p : List ℕ) (i : ℕ) (r : Bool) → r ≡ pointwise eqb p (take (length p) (take (length f - i) (drop i f)))
    → only_if r (some (drop (i + length p) f)) ≡ strip p (drop i f)
starts_at f p i r e =
    ap (λ (t : Bool). only_if t (some (drop (i + length p) f))) (e ∙ ap (λ (l : List ℕ). pointwise eqb p (take (length p) l)) (tail_drop f i))
    ∙ ap (λ (l : List ℕ). only_if (pointwise eqb p (take (length p) (drop i f))) (some l)) (sym (drop-drop (length p) i f))
    ∙ starts_strip p (drop i f)

-- ---- the first 00

zero_most : (l : List ℕ) → first_zero l ≤ length l
zero_most [] = omega arith
zero_most (zero ∷ l) = omega arith
zero_most (suc b ∷ l) = omega (arith, zero_most l)

-- the place of the first 00
pub zero_position : (l : List ℕ) → position_or_len (λ b. b == 0) l ≡ first_zero l
zero_position [] = refl
zero_position (zero ∷ l) = refl
zero_position (suc b ∷ l) = rw (ne_eqb (suc b) 0 (λ z. omega arith)) (omega (arith, zero_position l))

found_by : (k n m : ℕ) (t : Bool) → ltb k m ≡ t → cond t (Some k) None ≡ Some n → (n ≡ k) × (k < m)
found_by k n m true h e = (sym (same_Some k n e), ltb-true k m h)
found_by k n m false h e = absurd (none-some n e)

none_by : (k m : ℕ) (t : Bool) → ltb k m ≡ t → cond t (Some k) None ≡ None → m ≤ k
none_by k m true h e = absurd (none-some k (sym e))
none_by k m false h e = ltb-false k m h

pub zero_found : (l : List ℕ) (n : ℕ) → position (λ b. b == 0) l ≡ Some n → (n ≡ first_zero l) × (first_zero l < length l)
zero_found l n e =
    let w = found_by (position_or_len (λ b. b == 0) l) n (length l) _ refl e in
    (w.0 ∙ zero_position l, omega (arith, w.1, zero_position l))

pub zero_none : (l : List ℕ) → position (λ b. b == 0) l ≡ None → length l ≤ first_zero l
zero_none l e = omega (arith, none_by (position_or_len (λ b. b == 0) l) (length l) _ refl e, zero_position l)

-- ---- a text up to 00

pub text_none : (l : List ℕ) → Seven l → length l ≤ first_zero l → up_to_zero l ≡ bad
text_none [] s h = refl
text_none (zero ∷ l) s h = absurd (omega arith)
text_none (suc b ∷ l) s h = rw (lt-ltb _ _ s.0, text_none l s.1 (omega arith))

pub text_is : (l : List ℕ) → Seven l → first_zero l < length l → up_to_zero l ≡ got (take (first_zero l) l) (drop (suc (first_zero l)) l)
text_is [] s h = absurd (omega arith)
text_is (zero ∷ l) s h = refl
text_is (suc b ∷ l) s h = rw (lt-ltb _ _ s.0, text_is l s.1 (omega arith))

-- a URL is as long as its end is far
pub url_length : (l : List ℕ) → length (take (first_zero l) l) ≡ first_zero l
url_length l = length-take-le (first_zero l) l (zero_most l)

module _ (f : List ℕ) (s : Seven f) (i : ℕ) where
  pub url_none : (n : ℕ) → length f ≤ i + first_zero (drop i f) → read_text n (drop i f) ≡ bad
  url_none n h =
      rw (text_none (drop i f) (seven_drop i f s) (omega (arith, length-drop i f)))

  module _ (h : i + first_zero (drop i f) < length f) where
    text_at : up_to_zero (drop i f) ≡ got (take (first_zero (drop i f)) (drop i f)) (drop (i + first_zero (drop i f) + 1) f)
    text_at =
        let e : i + suc (first_zero (drop i f)) ≡ i + first_zero (drop i f) + 1 = omega arith in
        text_is (drop i f) (seven_drop i f s) (omega (arith, length-drop i f))
        ∙ ap (got (take (first_zero (drop i f)) (drop i f))) (drop-drop (suc (first_zero (drop i f))) i f ∙ ap (λ (n : ℕ). drop n f) e)

    pub url_long : (n : ℕ) → n < first_zero (drop i f) → read_text n (drop i f) ≡ bad
    url_long n g = rw (text_at, url_length (drop i f), lt-leb _ _ g)

  pub url_at : (n : ℕ) → Ends (Some n) f i → read_text most_url (drop i f) ≡ got (take n (drop i f)) (drop (i + n + 1) f)
  url_at n e = rw (e.0, text_at (omega (arith, e.0, e.1)), url_length (drop i f), le-leb (first_zero (drop i f)) most_url (omega (arith, e.0, e.2)))

-- ---- the URL from i on, by the place of the first 00 behind i

module _ (f : List ℕ) (i : ℕ) where
  abbrev pub place : Option ℕ
  place = position (λ b. b == 0) (take (length f - i) (drop i f))

  place_drop : place ≡ position (λ b. b == 0) (drop i f)
  place_drop = ap (position (λ b. b == 0)) (tail_drop f i)

  pub url_ends : (n : ℕ) → Some n ≡ place → n ≤ most_url → Ends (Some n) f i
  url_ends n e g =
      let w = zero_found (drop i f) n (sym (e ∙ place_drop)) in
      (w.0, omega (arith, w.0, w.1, length-drop i f), g)

  module _ (s : Seven f) where
    pub url_endless : None ≡ place → Ends None f i
    url_endless e = url_none f s i most_url (omega (arith, zero_none (drop i f) (sym (e ∙ place_drop)), length-drop i f))

    pub url_over : (n : ℕ) → Some n ≡ place → most_url < n → Ends None f i
    url_over n e g =
        let w = zero_found (drop i f) n (sym (e ∙ place_drop)) in
        url_long f s i (omega (arith, w.1, length-drop i f)) most_url (omega (arith, w.0))

-- ---- the URL of a file that the fields name

module _ (f : List ℕ) (t : FileReferenceType) (l : ℕ) (x : Seven f × Names (Some (t, l)) f) where
  pub named_url : read_text most_url (drop 8 f) ≡ got (take l (drop 8 f)) (drop (9 + l) f)
  named_url =
      let i : 8 + l + 1 ≡ 9 + l = omega arith in
      url_at f x.0 8 l x.1.2 ∙ ap (λ (n : ℕ). got (take l (drop 8 f)) (drop n f)) i

  pub named_length : length (take l (drop 8 f)) ≡ l
  named_length = ap (λ (n : ℕ). length (take n (drop 8 f))) x.1.2.0 ∙ url_length (drop 8 f) ∙ sym x.1.2.0
