-- A choice by what stands in front: a table of codes, the code as a part, and what each code is followed by.
use Rattle.std.specs.Prelude.{◌≡◌, refl, Bool, true, false, List, [], ◌∷◌, ◌++◌, ℕ}
use Rattle.std.proofs.Common.{subst}
use Rattle.std.proofs.Math.Option.{Option, none, some}
use Rattle.util.specs.Groups.{Seven}
use Rattle.util.proofs.Laws.Groups.{seven_append}
use Rattle.util.specs.Options.{map_option}
use Rattle.util.proofs.Laws.Options.{map_option_some}
use Rattle.messages.specs.format.Core.{Got, bad, got, bind_whole, Part, Whole, bad_got, bind_whole_some}
use Rattle.messages.specs.format.Sequence.{strip, strip_only}

-- ---- a table of codes: the first entry whose code stands in front, among those that `mine` allows

abbrev pub or_else : {T : Type 0} → T → Option (List ℕ) → Got T → Got T
or_else t none g = g
or_else t (some r) g = got t r

abbrev pub allow : Option (List ℕ) → Bool → Option (List ℕ)
allow none t = none
allow (some r) true = some r
allow (some r) false = none

abbrev pub find : {T : Type 0} → (T → Bool) → (T → List ℕ) → List T → List ℕ → Got T
find mine code [] bs = bad
find mine code (t ∷ ts) bs = or_else t (allow (strip (code t) bs) (mine t)) (find mine code ts bs)

module _ {T : Type 0} (mine : T → Bool) (code : T → List ℕ) where
  one_only : (m : Bool) (x : T) (bs : List ℕ) (o : Option (List ℕ)) (g : Got T) (t : T) (r : List ℕ)
      → mine x ≡ m → strip (code x) bs ≡ o
      → (g ≡ got t r → (mine t ≡ true) × (code t ++ r ≡ bs))
      → or_else x (allow o m) g ≡ got t r → (mine t ≡ true) × (code t ++ r ≡ bs)
  one_only m x bs none g t r em eo k e = k e
  one_only true x bs (some s) g t r em eo k e =
      let y : x ≡ t = cc in
      let z : s ≡ r = cc in
      subst (λ (x : T). (mine x ≡ true) × (code x ++ r ≡ bs)) y (em, rw (← z) (strip_only (code x) bs s eo))
  one_only false x bs (some s) g t r em eo k e = k e

  pub find_only : (ts : List T) (bs : List ℕ) (t : T) (r : List ℕ) → find mine code ts bs ≡ got t r → (mine t ≡ true) × (code t ++ r ≡ bs)
  find_only [] bs t r e = absurd (bad_got e)
  find_only (x ∷ ts) bs t r e = one_only (mine x) x bs (strip (code x) bs) (find mine code ts bs) t r refl refl (find_only ts bs t r) e

pub record Tag (T : Type 0) : Type 0 where
  pub code : T → List ℕ
  pub table : List T
  pub tag_back : (t : T) (r : List ℕ) → find (λ u. true) code table (code t ++ r) ≡ got t r
  pub tag_seven : (t : T) → Seven (code t)

abbrev pub look : {T : Type 0} → Tag T → List ℕ → Got T
look k bs = find (λ u. true) k.code k.table bs

-- the tag itself as a part
abbrev pub tagged : {T : Type 0} → Tag T → Part T
tagged k =
    record {
      refuses = λ t. none;
      settle = λ t. t;
      settled = λ t. Unit {0};
      bytes = k.code;
      read = look k;
      keeps = λ t e. tt;
      stays = λ t h. (refl, refl);
      low = λ t h. k.tag_seven t;
      back = λ t r h. k.tag_back t r;
      only = λ bs t r e. (tt, (find_only (λ u. true) k.code k.table bs t r e).1);
    }

-- a tag, and then what it says
module _ {T : Type 0} (k : Tag T) {F : T → Type 0} (p : (t : T) → Whole (F t)) where
  abbrev pub Chosen : Type 0
  Chosen = (t : T) × F t

  abbrev pub read_chosen : List ℕ → Option Chosen
  read_chosen bs = bind_whole (look k bs) λ t s. map_option (λ a. (t, a)) ((p t).read s)

  pub choose_stays : (x : Chosen) → (p x.0).settled x.1
      → ((p x.0).refuses x.1 ≡ none) × (◌≡◌ {A = Chosen} (x.0, (p x.0).settle x.1) x)
  choose_stays x h = (((p x.0).stays x.1 h).0, λ i. (x.0, ((p x.0).stays x.1 h).1 i))

  pub choose_back : (x : Chosen) → (p x.0).settled x.1 → read_chosen (k.code x.0 ++ (p x.0).bytes x.1) ≡ some x
  choose_back x h = rw (k.tag_back x.0 _, (p x.0).back x.1 h)

  pub choose_only : (bs : List ℕ) (x : Chosen) → read_chosen bs ≡ some x → (p x.0).settled x.1 × (k.code x.0 ++ (p x.0).bytes x.1 ≡ bs)
  choose_only bs x e =
      bind_whole_some (look k bs) _ e λ t s d e₁. map_option_some _ ((p t).read s) e₁ λ a d₁ y.
      let f = find_only (λ u. true) k.code k.table bs t s d in
      let g = (p t).only s a d₁ in
      subst (λ (x : Chosen). (p x.0).settled x.1 × (k.code x.0 ++ (p x.0).bytes x.1 ≡ bs)) y
      (g.0, rw (g.1, f.1))

  abbrev pub choose : Whole Chosen
  choose =
      record {
        refuses = λ x. (p x.0).refuses x.1;
        settle = λ x. (x.0, (p x.0).settle x.1);
        settled = λ x. (p x.0).settled x.1;
        bytes = λ x. k.code x.0 ++ (p x.0).bytes x.1;
        read = read_chosen;
        keeps = λ x e. (p x.0).keeps x.1 e;
        stays = choose_stays;
        low = λ x h. seven_append (k.code x.0) ((p x.0).bytes x.1) (k.tag_seven x.0) ((p x.0).low x.1 h);
        back = choose_back;
        only = choose_only;
      }
