-- A text that ends in 00, and names for some codes.
use Rattle.std.specs.Prelude.{◌≡◌, refl, Bool, true, false, ◌&&◌, List, [], ◌∷◌, ◌++◌, ℕ, zero, suc, ◌<◌, ◌≤◌, ltb, leb, length, take}
use Rattle.std.proofs.Common.{subst, ap, arith, lit<, take_all, ltb-true, lt-ltb, leb-true, le-leb}
use Rattle.std.proofs.Math.Option.{none}
use Rattle.util.specs.Groups.{Seven}
use Rattle.util.proofs.Laws.Groups.{both_true}
use Rattle.util.specs.Options.{unless}
use Rattle.util.proofs.Laws.Options.{unless_none}
use Rattle.util.specs.declared.refusal.Refusal.TheVariants.{High}
use Rattle.util.specs.Pick.{pick}
use Rattle.messages.specs.format.Core.{Got, bad, got, guard, bind, Part, bad_got, guard_got, bind_got}

-- ---- a text: bytes 1 to 127, the first n of them, and 00

abbrev pub is_text : List ℕ → Bool
is_text [] = true
is_text (zero ∷ l) = false
is_text (suc b ∷ l) = ltb (suc b) 128 && is_text l

abbrev pub Text : List ℕ → Type 0
Text [] = Unit {0}
Text (b ∷ l) = (0 < b) × (b < 128) × Text l

-- the bytes 1 to 127 up to a 00
abbrev pub up_to_zero : List ℕ → Got (List ℕ)
up_to_zero [] = bad
up_to_zero (zero ∷ bs) = got [] bs
up_to_zero (suc b ∷ bs) = guard (ltb (suc b) 128) (bind (up_to_zero bs) λ l r. got (suc b ∷ l) r)

-- a text of at most n bytes
abbrev pub read_text : ℕ → List ℕ → Got (List ℕ)
read_text n bs = bind (up_to_zero bs) λ l r. guard (leb (length l) n) (got l r)

pub is_text_true : (l : List ℕ) → is_text l ≡ true → Text l
is_text_true [] e = tt
is_text_true (zero ∷ l) e = absurd (let z : ◌≡◌ {A = ℕ} 0 1 = cc in omega arith)
is_text_true (suc b ∷ l) e =
    let z = both_true (ltb (suc b) 128) (is_text l) e in
    (omega arith, ltb-true (suc b) 128 z.0, is_text_true l z.1)

pub true_text : (l : List ℕ) → Text l → is_text l ≡ true
true_text [] h = refl
true_text (zero ∷ l) h = absurd (omega arith)
true_text (suc b ∷ l) h = rw (lt-ltb (suc b) 128 h.1, true_text l h.2)

pub text_take : (n : ℕ) (l : List ℕ) → Text l → Text (take n l) × (length (take n l) ≤ n)
text_take zero l h = (tt, omega arith)
text_take (suc n) [] h = (tt, omega arith)
text_take (suc n) (b ∷ l) h = let z = text_take n l h.2 in ((h.0, h.1, z.0), omega (arith, z.1))

pub text_low : (l : List ℕ) → Text l → Seven (l ++ (0 ∷ []))
text_low [] h = (lit< tt, tt)
text_low (b ∷ l) h = (h.1, text_low l h.2)

pub up_to_zero_back : (l r : List ℕ) → Text l → up_to_zero ((l ++ (0 ∷ [])) ++ r) ≡ got l r
up_to_zero_back [] r h = refl
up_to_zero_back (zero ∷ l) r h = absurd (omega arith)
up_to_zero_back (suc b ∷ l) r h = rw (lt-ltb (suc b) 128 h.1, up_to_zero_back l r h.2)

pub up_to_zero_only : (bs l r : List ℕ) → up_to_zero bs ≡ got l r → Text l × ((l ++ (0 ∷ [])) ++ r ≡ bs)
up_to_zero_only [] l r e = absurd (bad_got e)
up_to_zero_only (zero ∷ bs) l r e =
    let y : [] ≡ l = cc in
    let z : r ≡ bs = cc in
    subst (λ (l : List ℕ). Text l × ((l ++ (0 ∷ [])) ++ r ≡ 0 ∷ bs)) y (tt, ap (λ (m : List ℕ). 0 ∷ m) z)
up_to_zero_only (suc b ∷ bs) l r e =
    guard_got (ltb (suc b) 128) e λ t e₁. bind_got (up_to_zero bs) _ e₁ λ m s d e₂.
    let y : suc b ∷ m ≡ l = cc in
    let z : s ≡ r = cc in
    let f = up_to_zero_only bs m s d in
    subst (λ (l : List ℕ). Text l × ((l ++ (0 ∷ [])) ++ r ≡ suc b ∷ bs)) y
    ((omega arith, ltb-true (suc b) 128 t, f.0), rw (← z) (ap (λ (m : List ℕ). suc b ∷ m) f.1))

pub read_text_back : (n : ℕ) (l r : List ℕ) → Text l × (length l ≤ n) → read_text n ((l ++ (0 ∷ [])) ++ r) ≡ got l r
read_text_back n l r h = rw (up_to_zero_back l r h.0, le-leb (length l) n h.1)

pub read_text_only : (n : ℕ) (bs l r : List ℕ) → read_text n bs ≡ got l r → (Text l × (length l ≤ n)) × ((l ++ (0 ∷ [])) ++ r ≡ bs)
read_text_only n bs l r e =
    bind_got (up_to_zero bs) _ e λ m s d e₁. guard_got (leb (length m) n) e₁ λ t e₂.
    let y : m ≡ l = cc in
    let z : s ≡ r = cc in
    let f = up_to_zero_only bs m s d in
    subst (λ (l : List ℕ). (Text l × (length l ≤ n)) × ((l ++ (0 ∷ [])) ++ r ≡ bs)) y
    ((f.0, leb-true (length m) n t), rw (← z) f.1)

pub text_keeps : (n : ℕ) (l : List ℕ) → unless High (is_text l) ≡ none → Text (take n l) × (length (take n l) ≤ n)
text_keeps n l e = text_take n l (is_text_true l (unless_none High (is_text l) e))

abbrev pub text : ℕ → Part (List ℕ)
text n =
    record {
      refuses = λ l. unless High (is_text l);
      settle = take n;
      settled = λ l. Text l × (length l ≤ n);
      bytes = λ l. l ++ (0 ∷ []);
      read = read_text n;
      keeps = text_keeps n;
      stays = λ l h. (ap (unless High) (true_text l h.0), take_all n l h.1);
      low = λ l h. text_low l h.0;
      back = read_text_back n;
      only = read_text_only n;
    }

-- ---- a name for some codes: the first entry of a table that has the code, else a name for any code

module _ {T C : Type 0} (same : C → C → Bool) (code : T → C) (custom : C → T) where
  abbrev pub lookup : List T → C → T
  lookup [] c = custom c
  lookup (t ∷ ts) c = pick (same (code t) c) t (lookup ts c)

  module _ (same_true : (a b : C) → same a b ≡ true → a ≡ b) (plain : (c : C) → code (custom c) ≡ c) where
    one_same : (b : Bool) (t u : T) (c : C) → same (code t) c ≡ b → code u ≡ c → code (pick b t u) ≡ c
    one_same true t u c e f = same_true (code t) c e
    one_same false t u c e f = f

    pub lookup_same : (ts : List T) (c : C) → code (lookup ts c) ≡ c
    lookup_same [] c = plain c
    lookup_same (t ∷ ts) c = one_same (same (code t) c) t (lookup ts c) c refl (lookup_same ts c)
