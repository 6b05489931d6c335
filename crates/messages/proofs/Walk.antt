-- The frames of a stream: a stretch is listed exactly when it is a frame, by rising offset, and the pairs from an F0 on depend on nothing before it.
-- Assumes nothing.
use mathlib.Core.Path.{◌≡◌, refl, sym, ap, subst, ◌∙◌}
use mathlib.Core.Logic.{◌⊎◌, inl, inr, ⊎_elim}
use mathlib.Core.Bool.{Bool, true}
use mathlib.Core.List.{List, [], ◌∷◌, ◌++◌}
use Prim.Native.Nat.{ℕ, zero, suc, ◌+◌, ◌≤◌, ◌<◌, zero-le, suc-le-suc}
use native.Mathlib.Nat.{le_of_suc-le-suc, suc-add, zero-add, add-zero, add-suc}
use native.Mathlib.Omega.{arith}
use lib.Dec.{ltb}
use lib.ListN.{length, take, drop}
use lib.Seq.{drop-nil, take-nil, length-take-le}
use borrow.Author.Tests.{ltb-true, lt-ltb, le-ltb, le-leb, lt-leb}
use Rattle.std.proofs.lemmas.Bool.{cases_Bool}
use Rattle.util.specs.Groups.{Seven}
use Rattle.messages.specs.Types.{Kind}
use Rattle.messages.specs.Messages.{Answer, refused, given, read_of}
use Rattle.messages.specs.Walk.{Stretch, low_run, reach, stretches, is_given, is_frame, Listed, Above, Rising, since}
use Rattle.messages.specs.Promises.{IsFrameFor, ListedExactly, ListedRising, SameFromThere}
use Rattle.messages.proofs.Exact.{read_settled, reads_back, frame_shaped}

-- what the laws of the walk ask of a test: F0, bytes below 128, F7
abbrev pub Ending : List ℕ → Type 0
Ending [] = ⊥
Ending (b ∷ r) = ((b ≡ 0xF7) × (r ≡ [])) ⊎ ((b < 128) × Ending r)

abbrev pub Enclosed : List ℕ → Type 0
Enclosed [] = ⊥
Enclosed (b ∷ r) = (b ≡ 0xF0) × Ending r

abbrev pub Encloses : (List ℕ → Bool) → Type 0
Encloses test = (p : List ℕ) → test p ≡ true → Enclosed p

-- ---- what can be a frame

take_none : (l : ℕ) (r : List ℕ) → l ≤ length r → take l r ≡ [] → l ≡ 0
take_none l r h e = sym (length-take-le l r h) ∙ ap length e

ending_len : (l : ℕ) (r : List ℕ) → l ≤ length r → Ending (take l r) → l ≡ suc (low_run r)
unfolding low_run
ending_len zero r h e = absurd e
ending_len (suc l) [] h e = absurd e
ending_len (suc l) (b ∷ r) h e = ⊎_elim
    (λ p. rw (le-ltb b 128 (omega (arith, p.0))) (ap suc (take_none l r (le_of_suc-le-suc h) p.1)))
    (λ p. rw (lt-ltb b 128 p.0) (ap suc (ending_len l r (le_of_suc-le-suc h) p.1)))
    e

ending_fits : (r : List ℕ) → Ending (take (suc (low_run r)) r) → suc (low_run r) ≤ length r
unfolding low_run
ending_fits [] e = absurd e
ending_fits (b ∷ r) e = ⊎_elim
    (λ q. rw q (suc-le-suc (⊎_elim
    (λ p. absurd (omega (arith, ltb-true b 128 q, p.0)))
    (λ p. ending_fits r p.1)
    (rw q at e))))
    (λ q. rw q (suc-le-suc zero-le))
    (cases_Bool (ltb b 128))

pub record Found (test : List ℕ → Bool) (o : ℕ) (s : List ℕ) (x : Stretch) : Type 0 where
  pub d : ℕ
  pub at : x.0 ≡ o + d
  pub fits : d + x.1 ≤ length s
  pub frame : test (take x.1 (drop d s)) ≡ true

module _ (test : List ℕ → Bool) (encloses : Encloses test) where
  sound : (s : List ℕ) (o : ℕ) (x : Stretch) → Listed x (stretches test o s) → Found test o s x
  unfolding stretches
  sound [] o x m = absurd m
  sound (b ∷ r) o x m =
      let later : Listed x (stretches test (suc o) r) → Found test o (b ∷ r) x =
      λ m'. let f = sound r (suc o) x m' in
      record { d = suc f.d; at = f.at ∙ rw (suc-add, add-suc); fits = rw suc-add (suc-le-suc f.fits); frame = f.frame } in
      ⊎_elim
      (λ e. ⊎_elim
      (λ p. record { d = 0; at = ap (λ (y : Stretch). y.0) p ∙ sym (add-zero o); fits = omega (arith, ap (λ (y : Stretch). y.1) p, ending_fits r (encloses (take (reach r) (b ∷ r)) e).1); frame = rw p e })
      later
      (rw e at m))
      (λ e. later (rw e at m))
      (cases_Bool (test (take (reach r) (b ∷ r))))

  complete : (s : List ℕ) (o d l : ℕ) → d + l ≤ length s → test (take l (drop d s)) ≡ true → Listed (o + d, l) (stretches test o s)
  unfolding stretches
  complete [] o d l h e = absurd (encloses [] (rw (drop-nil, take-nil) at e))
  complete (b ∷ r) o zero zero h e = absurd (encloses [] e)
  complete (b ∷ r) o zero (suc l) h e =
      let q : l ≡ suc (low_run r) = ending_len l r (omega arith) (encloses (b ∷ take l r) e).1 in
      let e' : test (take (reach r) (b ∷ r)) ≡ true = rw q at e in
      rw (e', add-zero, q) (inl refl)
  complete (b ∷ r) o (suc d) l h e =
      let m : Listed (o + suc d, l) (stretches test (suc o) r) = rw (add-suc, ← suc-add) (complete r (suc o) d l (omega (arith, rw suc-add at h)) e) in
      ⊎_elim (λ q. rw q (inr m)) (λ q. rw q m) (cases_Bool (test (take (reach r) (b ∷ r))))

  -- a stretch is listed exactly when it passes the test
  pub listed_frame : (s : List ℕ) (o l : ℕ) → Listed (o, l) (stretches test 0 s) → (o + l ≤ length s) × (test (take l (drop o s)) ≡ true)
  listed_frame s o l m =
      let f = sound s 0 (o, l) m in
      let q : o ≡ f.d = f.at ∙ zero-add f.d in
      (rw q f.fits, rw q f.frame)

  pub frame_listed : (s : List ℕ) (o l : ℕ) → o + l ≤ length s → test (take l (drop o s)) ≡ true → Listed (o, l) (stretches test 0 s)
  frame_listed s o l h e = rw zero-add at (complete s 0 o l h e)

  -- and by rising offset
  above : (s : List ℕ) (o p : ℕ) → o < p → Above o (stretches test p s)
  unfolding stretches
  above [] o p h = tt
  above (b ∷ r) o p h = ⊎_elim
      (λ e. rw e (h, above r o (suc p) (omega arith)))
      (λ e. rw e (above r o (suc p) (omega arith)))
      (cases_Bool (test (take (reach r) (b ∷ r))))

  pub rising : (s : List ℕ) (o : ℕ) → Rising (stretches test o s)
  unfolding stretches
  rising [] o = tt
  rising (b ∷ r) o = ⊎_elim
      (λ e. rw e (above r o (suc o) (omega arith), rising r (suc o)))
      (λ e. rw e (rising r (suc o)))
      (cases_Bool (test (take (reach r) (b ∷ r))))

  -- ---- two streams that agree from some place on

  since_all : (s : List ℕ) (k j : ℕ) → since k (stretches test (k + j) s) ≡ stretches test j s
  unfolding stretches since
  since_all [] k j = refl
  since_all (b ∷ r) k j =
      let rest : since k (stretches test (suc (k + j)) r) ≡ stretches test (suc j) r = rw (← add-suc) (since_all r k (suc j)) in
      ⊎_elim
      (λ e. rw (e, le-leb k (k + j) (omega arith)) (rw rest (ap (λ (n : ℕ). (n, reach r) ∷ stretches test (suc j) r) (omega arith))))
      (λ e. rw e rest)
      (cases_Bool (test (take (reach r) (b ∷ r))))

  since_drop : (a : ℕ) (s : List ℕ) (o : ℕ) → since (o + a) (stretches test o s) ≡ stretches test 0 (drop a s)
  unfolding stretches since
  since_drop zero s o = rw add-zero (ap (λ (n : ℕ). since o (stretches test n s)) (sym (add-zero o)) ∙ since_all s o 0)
  since_drop (suc a) [] o = refl
  since_drop (suc a) (b ∷ r) o =
      let rest : since (o + suc a) (stretches test (suc o) r) ≡ stretches test 0 (drop a r) = rw (add-suc, ← suc-add) (since_drop a r (suc o)) in
      ⊎_elim
      (λ e. rw (e, lt-leb (o + suc a) o (omega arith)) rest)
      (λ e. rw e rest)
      (cases_Bool (test (take (reach r) (b ∷ r))))

  pub agree : (s₁ s₂ : List ℕ) (a₁ a₂ : ℕ) → drop a₁ s₁ ≡ drop a₂ s₂ → since a₁ (stretches test 0 s₁) ≡ since a₂ (stretches test 0 s₂)
  agree s₁ s₂ a₁ a₂ e =
      ap (λ (n : ℕ). since n (stretches test 0 s₁)) (sym (zero-add a₁))
      ∙ since_drop a₁ s₁ 0
      ∙ ap (stretches test 0) e
      ∙ sym (since_drop a₂ s₂ 0)
      ∙ ap (λ (n : ℕ). since n (stretches test 0 s₂)) (zero-add a₂)

-- ---- the reading as the test

given_is : {A C : Type 0} (a : Answer A) → is_given a ≡ true → ((x : A) → a ≡ given x → C) → C
given_is (refused r) e k = absurd (let z : ◌≡◌ {A = ℕ} 0 1 = cc in omega arith)
given_is (given x) e k = k x refl

pub frame_for : (k : Kind) (bs : List ℕ) → is_frame k bs ≡ true → IsFrameFor k bs
unfolding is_frame
frame_for k bs e = given_is (read_of k bs) e λ m d. let p = read_settled k bs m d in record { message = m; settled = p.0; frame = p.1 }

pub for_frame : (k : Kind) (bs : List ℕ) → IsFrameFor k bs → is_frame k bs ≡ true
unfolding is_frame
for_frame k bs f = ap is_given (reads_back k f.message bs f.settled f.frame)

seven_ending : (mid : List ℕ) → Seven mid → Ending (mid ++ (0xF7 ∷ []))
seven_ending [] h = inl (refl, refl)
seven_ending (b ∷ mid) h = inr (h.0, seven_ending mid h.1)

pub frame_encloses : (k : Kind) → Encloses (is_frame k)
frame_encloses k bs e =
    let f = frame_for k bs e in
    let s = frame_shaped f.message bs f.frame in
    subst Enclosed s.is (refl, seven_ending s.mid s.low)

pub listed_exactly : ListedExactly
listed_exactly k s o l = (
  λ m. let p = listed_frame (is_frame k) (frame_encloses k) s o l m in (p.0, frame_for k (take l (drop o s)) p.1),
  λ h. frame_listed (is_frame k) (frame_encloses k) s o l h.0 (for_frame k (take l (drop o s)) h.1),
)

pub listed_rising : ListedRising
listed_rising k s = rising (is_frame k) (frame_encloses k) s 0

pub same_from_there : SameFromThere
same_from_there k s t a b h i e f d = agree (is_frame k) (frame_encloses k) s t a b d
