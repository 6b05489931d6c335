-- Formats one after another, a constant before one, one at the end, and the empty format.
use Rattle.std.specs.Prelude.{◌≡◌, refl, List, [], ◌∷◌, ◌++◌, ℕ, eqb}
use Rattle.std.proofs.Common.{sym, subst, ap₂, ◌∙◌, append_assoc, append-nil, eqb-true, eq-eqb}
use Rattle.std.proofs.Math.Option.{Option, none, some}
use Rattle.util.specs.Groups.{Seven}
use Rattle.util.proofs.Laws.Groups.{seven_append}
use Rattle.util.specs.Options.{map_option, only_if}
use Rattle.util.proofs.Laws.Options.{map_option_some, none_some, only_if_some}
use Rattle.messages.specs.Types.{Refusal}
use Rattle.messages.specs.Refusals.{least, least_none, none_both}
use Rattle.messages.specs.format.Views.{via}
use Rattle.messages.specs.format.Core.{Got, bad, got, bind, bind_whole, Part, Whole, bad_got, bind_got, bind_whole_some}

-- ---- one after another

-- what two formats keep of a pair
pub both_stay : {A B : Type 0} {a a' : A} {b b' : B} {r s : Option Refusal} → (r ≡ none) × (a' ≡ a) → (s ≡ none) × (b' ≡ b)
    → (least r s ≡ none) × (◌≡◌ {A = A × B} (a', b') (a, b))
both_stay p q = (none_both p.0 q.0, λ i. (p.1 i, q.1 i))

module _ {A B : Type 0} (p : Part A) (q : Part B) where
  abbrev pub read_pair : List ℕ → Got (A × B)
  read_pair bs = bind (p.read bs) λ a s. bind (q.read s) λ b r. got (a, b) r

  pub pair_keeps : (x : A × B) → least (p.refuses x.0) (q.refuses x.1) ≡ none → p.settled (p.settle x.0) × q.settled (q.settle x.1)
  pair_keeps x e = let z = least_none (p.refuses x.0) (q.refuses x.1) e in (p.keeps x.0 z.0, q.keeps x.1 z.1)

  pub pair_back : (x : A × B) (r : List ℕ) → p.settled x.0 × q.settled x.1 → read_pair ((p.bytes x.0 ++ q.bytes x.1) ++ r) ≡ got x r
  pair_back x r h = rw (append_assoc, p.back x.0 _ h.0, q.back x.1 r h.1)

  pub pair_only : (bs : List ℕ) (x : A × B) (r : List ℕ) → read_pair bs ≡ got x r
      → (p.settled x.0 × q.settled x.1) × ((p.bytes x.0 ++ q.bytes x.1) ++ r ≡ bs)
  pair_only bs x r e =
      bind_got (p.read bs) _ e λ a s d e₁. bind_got (q.read s) _ e₁ λ b t d₁ e₂.
      let y : ◌≡◌ {A = A × B} (a, b) x = cc in
      let z : t ≡ r = cc in
      let f = p.only bs a s d in
      let g = q.only s b t d₁ in
      subst (λ (x : A × B). (p.settled x.0 × q.settled x.1) × ((p.bytes x.0 ++ q.bytes x.1) ++ r ≡ bs)) y
      ((f.0, g.0), rw (append_assoc, ← z, g.1, f.1))

  infixr 60 ◌⊗◌
  abbrev pub ◌⊗◌ : Part (A × B)
  ◌⊗◌ =
      record {
        refuses = λ x. least (p.refuses x.0) (q.refuses x.1);
        settle = λ x. (p.settle x.0, q.settle x.1);
        settled = λ x. p.settled x.0 × q.settled x.1;
        bytes = λ x. p.bytes x.0 ++ q.bytes x.1;
        read = read_pair;
        keeps = pair_keeps;
        stays = λ x h. both_stay (p.stays x.0 h.0) (q.stays x.1 h.1);
        low = λ x h. seven_append (p.bytes x.0) (q.bytes x.1) (p.low x.0 h.0) (q.low x.1 h.1);
        back = pair_back;
        only = pair_only;
      }

-- the second takes all that is left
module _ {A B : Type 0} (p : Part A) (q : Whole B) where
  abbrev pub read_pair_w : List ℕ → Option (A × B)
  read_pair_w bs = bind_whole (p.read bs) λ a s. map_option (λ b. (a, b)) (q.read s)

  pub pair_whole_keeps : (x : A × B) → least (p.refuses x.0) (q.refuses x.1) ≡ none → p.settled (p.settle x.0) × q.settled (q.settle x.1)
  pair_whole_keeps x e = let z = least_none (p.refuses x.0) (q.refuses x.1) e in (p.keeps x.0 z.0, q.keeps x.1 z.1)

  pub pair_whole_back : (x : A × B) → p.settled x.0 × q.settled x.1 → read_pair_w (p.bytes x.0 ++ q.bytes x.1) ≡ some x
  pair_whole_back x h = rw (p.back x.0 _ h.0, q.back x.1 h.1)

  pub pair_whole_only : (bs : List ℕ) (x : A × B) → read_pair_w bs ≡ some x
      → (p.settled x.0 × q.settled x.1) × (p.bytes x.0 ++ q.bytes x.1 ≡ bs)
  pair_whole_only bs x e =
      bind_whole_some (p.read bs) _ e λ a s d e₁. map_option_some _ (q.read s) e₁ λ b d₁ y.
      let f = p.only bs a s d in
      let g = q.only s b d₁ in
      subst (λ (x : A × B). (p.settled x.0 × q.settled x.1) × (p.bytes x.0 ++ q.bytes x.1 ≡ bs)) y
      ((f.0, g.0), rw (g.1, f.1))

  infixr 60 ◌⊗w◌
  abbrev pub ◌⊗w◌ : Whole (A × B)
  ◌⊗w◌ =
      record {
        refuses = λ x. least (p.refuses x.0) (q.refuses x.1);
        settle = λ x. (p.settle x.0, q.settle x.1);
        settled = λ x. p.settled x.0 × q.settled x.1;
        bytes = λ x. p.bytes x.0 ++ q.bytes x.1;
        read = read_pair_w;
        keeps = pair_whole_keeps;
        stays = λ x h. both_stay (p.stays x.0 h.0) (q.stays x.1 h.1);
        low = λ x h. seven_append (p.bytes x.0) (q.bytes x.1) (p.low x.0 h.0) (q.low x.1 h.1);
        back = pair_whole_back;
        only = pair_whole_only;
      }

-- ---- a part at the end: nothing may follow

abbrev pub at_end : {A : Type 0} → A → List ℕ → Option A
at_end a [] = some a
at_end a (x ∷ r) = none

pub at_end_some : {A C : Type 0} (a : A) (r : List ℕ) {b : A} → at_end a r ≡ some b → (a ≡ b → r ≡ [] → C) → C
at_end_some a [] e k = k (cc) refl
at_end_some a (x ∷ r) e k = absurd (none_some e)

module _ {A : Type 0} (p : Part A) where
  pub end_back : (a : A) → p.settled a → bind_whole (p.read (p.bytes a)) at_end ≡ some a
  end_back a h = rw (← append-nil (p.bytes a), p.back a [] h)

  pub end_only : (bs : List ℕ) (a : A) → bind_whole (p.read bs) at_end ≡ some a → p.settled a × (p.bytes a ≡ bs)
  end_only bs a e =
      bind_whole_some (p.read bs) _ e λ b s d e₁. at_end_some b s e₁ λ y z.
      let f = p.only bs b s d in
      subst (λ (x : A). p.settled x × (p.bytes x ≡ bs)) y (f.0, sym (append-nil (p.bytes b)) ∙ (rw z at f.1))

  abbrev pub end : Whole A
  end =
      record {
        refuses = p.refuses;
        settle = p.settle;
        settled = p.settled;
        bytes = p.bytes;
        read = λ bs. bind_whole (p.read bs) at_end;
        keeps = p.keeps;
        stays = p.stays;
        low = p.low;
        back = end_back;
        only = end_only;
      }

-- ---- a constant

abbrev pub strip : List ℕ → List ℕ → Option (List ℕ)
strip [] bs = some bs
strip (c ∷ cs) [] = none
strip (c ∷ cs) (b ∷ bs) = only_if (eqb c b) (strip cs bs)

pub strip_back : (cs r : List ℕ) → strip cs (cs ++ r) ≡ some r
strip_back [] r = refl
strip_back (c ∷ cs) r = rw (eq-eqb c c refl, strip_back cs r)

pub strip_only : (cs bs r : List ℕ) → strip cs bs ≡ some r → cs ++ r ≡ bs
strip_only [] bs r e = cc
strip_only (c ∷ cs) [] r e = absurd (none_some e)
strip_only (c ∷ cs) (b ∷ bs) r e = only_if_some (eqb c b) e λ t e₁. ap₂ (λ (x : ℕ) (l : List ℕ). x ∷ l) (eqb-true c b t) (strip_only cs bs r e₁)

abbrev pub after : {A : Type 0} → Option (List ℕ) → (List ℕ → Got A) → Got A
after none k = bad
after (some r) k = k r

pub after_got : {A C : Type 0} (o : Option (List ℕ)) (f : List ℕ → Got A) {a : A} {r : List ℕ} → after o f ≡ got a r
    → ((s : List ℕ) → o ≡ some s → f s ≡ got a r → C) → C
after_got none f e k = absurd (bad_got e)
after_got (some s) f e k = k s refl e

module _ (cs : List ℕ) (cs7 : Seven cs) where
  pub constant_back : (r : List ℕ) → after (strip cs (cs ++ r)) (got (tt {0})) ≡ got tt r
  constant_back r = rw (strip_back cs r)

  pub constant_only : (bs : List ℕ) (u : Unit {0}) (r : List ℕ) → after (strip cs bs) (got (tt {0})) ≡ got u r → cs ++ r ≡ bs
  constant_only bs u r e = after_got (strip cs bs) _ e λ s d e₁. let y : s ≡ r = cc in rw (← y) (strip_only cs bs s d)

  abbrev pub constant : Part (Unit {0})
  constant =
      record {
        refuses = λ u. none;
        settle = λ u. u;
        settled = λ u. Unit {0};
        bytes = λ u. cs;
        read = λ bs. after (strip cs bs) (got (tt {0}));
        keeps = λ u e. tt;
        stays = λ u h. (refl, refl);
        low = λ u h. cs7;
        back = λ u r h. constant_back r;
        only = λ bs u r e. (tt, constant_only bs u r e);
      }

-- no bytes at all
abbrev pub nothing : Part (Unit {0})
nothing = constant [] tt

-- a constant, and then a part
abbrev pub lit : (cs : List ℕ) → Seven cs → {A : Type 0} → Part A → Part A
lit cs h p = via (λ a. (tt, a)) (λ x. x.1) (constant cs h ⊗ p) (λ x s. refl)
