-- Lists of one format: so many of them, cut and filled; a number and then so many, cut; and all the bytes that are left.
-- A list is tested over what is written of it; a test over the whole of it, before any cut, is put on by `refusing`.
use Rattle.std.specs.Prelude.{◌≡◌, refl, List, [], ◌∷◌, ◌++◌, ℕ, zero, suc, ◌<◌, ltb, length, take}
use Rattle.std.proofs.Common.{sym, subst, ap, ap₂, ◌∙◌, append_assoc, le_of_eq, arith, length-take, take_all, ltb-true, lt-ltb}
use Rattle.std.proofs.Math.Option.{Option, none, some}
use Rattle.std.proofs.Math.Seq.{take-nil}
use Rattle.util.specs.Groups.{Seven, seven}
use Rattle.util.proofs.Laws.Groups.{seven_append, seven_true, true_seven}
use Rattle.util.specs.Limits.{most_counted}
use Rattle.util.specs.Options.{only_if, unless}
use Rattle.util.proofs.Laws.Options.{only_if_some, unless_none}
use Rattle.messages.specs.Types.{Refusal}
use Rattle.util.specs.declared.refusal.Refusal.TheVariants.{High}
use Rattle.messages.specs.Refusals.{least, least_none, none_both}
use Rattle.messages.specs.format.Core.{Got, bad, got, guard, bind, Part, Whole, bad_got, guard_got, bind_got}

module _ {A : Type 0} (p : Part A) where
  abbrev pub all_refuse : List A → Option Refusal
  all_refuse [] = none
  all_refuse (x ∷ xs) = least (p.refuses x) (all_refuse xs)

  abbrev pub all_settle : List A → List A
  all_settle [] = []
  all_settle (x ∷ xs) = p.settle x ∷ all_settle xs

  abbrev pub all_settled : List A → Type 0
  all_settled [] = Unit {0}
  all_settled (x ∷ xs) = p.settled x × all_settled xs

  abbrev pub all_bytes : List A → List ℕ
  all_bytes [] = []
  all_bytes (x ∷ xs) = p.bytes x ++ all_bytes xs

  abbrev pub all_read : ℕ → List ℕ → Got (List A)
  all_read zero bs = got [] bs
  all_read (suc n) bs = bind (p.read bs) λ a s. bind (all_read n s) λ l r. got (a ∷ l) r

  pub all_stays : (l : List A) → all_settled l → (all_refuse l ≡ none) × (all_settle l ≡ l)
  all_stays [] h = (refl, refl)
  all_stays (x ∷ xs) h = (
    none_both (p.stays x h.0).0 (all_stays xs h.1).0,
    ap₂ (λ (a : A) (l : List A). a ∷ l) (p.stays x h.0).1 (all_stays xs h.1).1,
  )

  pub all_low : (l : List A) → all_settled l → Seven (all_bytes l)
  all_low [] h = tt
  all_low (x ∷ xs) h = seven_append (p.bytes x) (all_bytes xs) (p.low x h.0) (all_low xs h.1)

  pub all_back : (l : List A) (r : List ℕ) → all_settled l → all_read (length l) (all_bytes l ++ r) ≡ got l r
  all_back [] r h = refl
  all_back (x ∷ xs) r h = rw (append_assoc, p.back x _ h.0, all_back xs r h.1)

  pub all_only : (n : ℕ) (bs : List ℕ) (l : List A) (r : List ℕ) → all_read n bs ≡ got l r
      → (length l ≡ n) × all_settled l × (all_bytes l ++ r ≡ bs)
  all_only zero bs l r e =
      let y : [] ≡ l = cc in
      let z : bs ≡ r = cc in
      subst (λ (l : List A). (length l ≡ 0) × all_settled l × (all_bytes l ++ r ≡ bs)) y (refl, tt, sym z)
  all_only (suc n) bs l r e =
      bind_got (p.read bs) _ e λ a s d e₁. bind_got (all_read n s) _ e₁ λ m t d₁ e₂.
      let y : a ∷ m ≡ l = cc in
      let z : t ≡ r = cc in
      let f = p.only bs a s d in
      let g = all_only n s m t d₁ in
      subst (λ (l : List A). (length l ≡ suc n) × all_settled l × (all_bytes l ++ r ≡ bs)) y
      (ap suc g.0, (f.0, g.1), rw (append_assoc, ← z, g.2, f.1))

  pub all_keeps : (l : List A) → all_refuse l ≡ none → all_settled (all_settle l)
  all_keeps [] e = tt
  all_keeps (x ∷ l) e = let z = least_none (p.refuses x) (all_refuse l) e in (p.keeps x z.0, all_keeps l z.1)

  pub all_length : (l : List A) → length (all_settle l) ≡ length l
  all_length [] = refl
  all_length (x ∷ l) = ap suc (all_length l)

  -- ---- n of them: what is over is dropped, and what is missing is filled by place

  module _ (n : ℕ) (fill : ℕ → A) (fill_none : (i : ℕ) → p.refuses (fill i) ≡ none) where
    -- k of them from place i on
    abbrev pub filled : ℕ → ℕ → List A → List A
    filled i zero l = []
    filled i (suc k) [] = fill i ∷ filled (suc i) k []
    filled i (suc k) (x ∷ l) = x ∷ filled (suc i) k l

    pub filled_length : (i k : ℕ) (l : List A) → length (filled i k l) ≡ k
    filled_length i zero l = refl
    filled_length i (suc k) [] = ap suc (filled_length (suc i) k [])
    filled_length i (suc k) (x ∷ l) = ap suc (filled_length (suc i) k l)

    pub filled_none : (i k : ℕ) (l : List A) → all_refuse (take k l) ≡ none → all_refuse (filled i k l) ≡ none
    filled_none i zero l e = refl
    filled_none i (suc k) [] e = none_both (fill_none i) (filled_none (suc i) k [] (rw (take-nil k)))
    filled_none i (suc k) (x ∷ l) e =
        let z = least_none (p.refuses x) (all_refuse (take k l)) e in
        none_both z.0 (filled_none (suc i) k l z.1)

    pub filled_same : (i k : ℕ) (l : List A) → length l ≡ k → filled i k l ≡ l
    filled_same i zero [] e = refl
    filled_same i zero (x ∷ l) e = absurd (omega arith)
    filled_same i (suc k) [] e = absurd (omega arith)
    filled_same i (suc k) (x ∷ l) e = ap (λ (m : List A). x ∷ m) (filled_same (suc i) k l (omega arith))

    pub exactly_stays : (l : List A) → (length l ≡ n) × all_settled l → (all_refuse (take n l) ≡ none) × (all_settle (filled 0 n l) ≡ l)
    exactly_stays l h = (
      ap all_refuse (take_all n l (le_of_eq h.0)) ∙ (all_stays l h.1).0,
      ap all_settle (filled_same 0 n l h.0) ∙ (all_stays l h.1).1,
    )

    pub exactly_only : (bs : List ℕ) (l : List A) (r : List ℕ) → all_read n bs ≡ got l r → ((length l ≡ n) × all_settled l) × (all_bytes l ++ r ≡ bs)
    exactly_only bs l r e = let g = all_only n bs l r e in ((g.0, g.1), g.2)

    abbrev pub exactly : Part (List A)
    exactly =
        record {
          refuses = λ l. all_refuse (take n l);
          settle = λ l. all_settle (filled 0 n l);
          settled = λ l. (length l ≡ n) × all_settled l;
          bytes = all_bytes;
          read = all_read n;
          keeps = λ l e. (all_length (filled 0 n l) ∙ filled_length 0 n l, all_keeps (filled 0 n l) (filled_none 0 n l e));
          stays = exactly_stays;
          low = λ l h. all_low l h.1;
          back = λ l r h. rw (← h.0, all_back l r h.1);
          only = exactly_only;
        }

  -- ---- a number, at most 127, and then so many: what is over is dropped

  abbrev pub read_counted : List ℕ → Got (List A)
  read_counted [] = bad
  read_counted (n ∷ bs) = guard (ltb n 128) (all_read n bs)

  pub counted_keeps : (l : List A) → all_refuse (take most_counted l) ≡ none → (length (all_settle (take most_counted l)) < 128) × all_settled (all_settle (take most_counted l))
  counted_keeps l e = (omega (arith, all_length (take most_counted l), length-take most_counted l), all_keeps (take most_counted l) e)

  pub counted_stays : (l : List A) → (length l < 128) × all_settled l → (all_refuse (take most_counted l) ≡ none) × (all_settle (take most_counted l) ≡ l)
  counted_stays l h = rw (take_all most_counted l (omega arith)) (all_stays l h.1)

  pub counted_back : (l : List A) (r : List ℕ) → (length l < 128) × all_settled l → read_counted (length l ∷ all_bytes l ++ r) ≡ got l r
  counted_back l r h = rw (lt-ltb _ _ h.0, all_back l r h.1)

  pub counted_only : (bs : List ℕ) (l : List A) (r : List ℕ) → read_counted bs ≡ got l r → ((length l < 128) × all_settled l) × (length l ∷ all_bytes l ++ r ≡ bs)
  counted_only [] l r e = absurd (bad_got e)
  counted_only (n ∷ bs) l r e =
      guard_got (ltb n 128) e λ t e₁.
      let g = all_only n bs l r e₁ in
      let h : n < 128 = ltb-true n 128 t in
      ((rw g.0 h, g.1), ap₂ (λ (x : ℕ) (m : List ℕ). x ∷ m) g.0 g.2)

  abbrev pub counted : Part (List A)
  counted =
      record {
        refuses = λ l. all_refuse (take most_counted l);
        settle = λ l. all_settle (take most_counted l);
        settled = λ l. (length l < 128) × all_settled l;
        bytes = λ l. length l ∷ all_bytes l;
        read = read_counted;
        keeps = counted_keeps;
        stays = counted_stays;
        low = λ l h. (h.0, all_low l h.1);
        back = counted_back;
        only = counted_only;
      }

-- ---- all the bytes that are left, each below 128

pub rest_only : (bs l : List ℕ) → only_if (seven bs) (some bs) ≡ some l → Seven l × (l ≡ bs)
rest_only bs l e = only_if_some (seven bs) e λ t e₁. let y : l ≡ bs = cc in (rw y (seven_true bs t), y)

abbrev pub rest : Whole (List ℕ)
rest =
    record {
      refuses = λ l. unless High (seven l);
      settle = λ l. l;
      settled = Seven;
      bytes = λ l. l;
      read = λ bs. only_if (seven bs) (some bs);
      keeps = λ l e. seven_true l (unless_none High (seven l) e);
      stays = λ l h. (ap (unless High) (true_seven l h), refl);
      low = λ l h. h;
      back = λ l h. rw (true_seven l h);
      only = λ bs l e. rest_only bs l e;
    }
