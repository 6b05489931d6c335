-- F0 and F7, by place.
-- Assumes nothing.
use mathlib.Core.Path.{◌≡◌, refl, sym, ap, ap₂, ◌∙◌}
use mathlib.Core.Bool.{true, false}
use mathlib.Core.Option.{Option, none, some}
use mathlib.Core.List.{List, [], ◌∷◌, ◌++◌}
use Prim.Native.Nat.{ℕ, suc, ◌-◌, ◌≤◌, ◌<◌}
use native.Mathlib.Omega.{arith}
use lib.ListN.{length, take, drop, get_or, length-append, length-drop, length-take}
use lib.Seq.{take-suc, take_all, take_at}
use borrow.Author.Tests.{lt-leb}
use Rattle.util.specs.Groups.{Seven, seven}
use Rattle.util.proofs.Laws.Groups.{true_seven}
use Rattle.util.proofs.Laws.Options.{not_some}
use Rattle.messages.specs.declared.file_reference.Kind.{Kind}
use Rattle.messages.specs.Messages.{Message, Answer, inside, read_inside, read_of}
use Rattle.messages.specs.Walk.{is_given, is_frame}
use Rattle.messages.proofs.Exact.{inside_back, inside_shaped}
use Rattle.reader.specs.Opening.{inner}

pub short_none : (l : List ℕ) → length l < 6 → inside l ≡ none
short_none l h = rw (lt-leb 6 (length l) h)

at_last : (m : List ℕ) → get_or (m ++ (0xF7 ∷ [])) (length m) 0 ≡ 0xF7
at_last [] = refl
at_last (x ∷ m) = at_last m

last_of : (mid : List ℕ) → get_or (0xF0 ∷ (mid ++ (0xF7 ∷ []))) (length (0xF0 ∷ (mid ++ (0xF7 ∷ []))) - 1) 0 ≡ 0xF7
last_of mid =
    let e : length (0xF0 ∷ (mid ++ (0xF7 ∷ []))) - 1 ≡ suc (length mid) = omega (arith, length-append mid (0xF7 ∷ [])) in
    rw e (at_last mid)

inner_of : (mid : List ℕ) → inner (0xF0 ∷ (mid ++ (0xF7 ∷ []))) ≡ mid
inner_of mid =
    let e : length (0xF0 ∷ (mid ++ (0xF7 ∷ []))) - 1 - 1 ≡ length mid = omega (arith, length-append mid (0xF7 ∷ [])) in
    rw e (take_at mid (0xF7 ∷ []) (length mid) refl)

pub first_none : (l : List ℕ) → (get_or l 0 0 ≡ 0xF0 → ⊥) → inside l ≡ none
first_none l k = not_some (inside l) (λ mid e. k (sym (ap (λ (x : List ℕ). get_or x 0 0) (inside_shaped l mid e).0)))

pub last_none : (l : List ℕ) → (get_or l (length l - 1) 0 ≡ 0xF7 → ⊥) → inside l ≡ none
last_none l k = not_some (inside l) (λ mid e. k (sym (ap (λ (x : List ℕ). get_or x (length x - 1) 0) (inside_shaped l mid e).0) ∙ last_of mid))

-- what stands inside is what lies between the first byte and the last
pub inside_inner : (l mid : List ℕ) → inside l ≡ some mid → inner l ≡ mid
inside_inner l mid e = sym (ap inner (inside_shaped l mid e).0) ∙ inner_of mid

pub high_none : (l : List ℕ) → seven (inner l) ≡ false → inside l ≡ none
high_none l h =
    not_some (inside l)
    λ mid e. let x : seven (inner l) ≡ true = ap seven (inside_inner l mid e) ∙ true_seven mid (inside_shaped l mid e).1 in
    let z : ◌≡◌ {A = ℕ} 0 1 = cc in omega arith

-- a list of at least two: its first, its middle, its last
ends : (l : List ℕ) (n : ℕ) → length l ≡ suc (suc n) → l ≡ get_or l 0 0 ∷ (take n (drop 1 l) ++ (get_or l (suc n) 0 ∷ []))
ends [] n e = absurd (omega arith)
ends (x ∷ l) n e = ap (λ (m : List ℕ). x ∷ m) (sym (take_all (suc n) l (omega arith)) ∙ take-suc l n 0 (omega arith))

pub inside_is : (l : List ℕ) → 6 ≤ length l → get_or l 0 0 ≡ 0xF0 → get_or l (length l - 1) 0 ≡ 0xF7 → Seven (inner l) → inside l ≡ some (inner l)
inside_is l h a b s =
    let n : ℕ = length l - 1 - 1 in
    let e : length l ≡ suc (suc n) = omega arith in
    let f : length l - 1 ≡ suc n = omega arith in
    let k : length (inner l) ≡ n = length-take n (drop 1 l) ∙ omega (arith, length-drop 1 l) in
    ap inside (ends l n e ∙ ap₂ (λ (x : ℕ) (y : ℕ). x ∷ (take n (drop 1 l) ++ (y ∷ []))) a (rw f at b))
    ∙ inside_back (inner l) s (omega arith)

-- what is read, by what stands inside
pub read_of_frame : (k : Kind) (l : List ℕ) {o : Option (List ℕ)} → inside l ≡ o → read_inside k o ≡ read_of k l
unfolding read_of
read_of_frame k l e = ap (read_inside k) (sym e)

-- a frame, by what is read
pub frame_is : (k : Kind) (l : List ℕ) {a : Answer Message} → a ≡ read_of k l → is_given a ≡ is_frame k l
unfolding is_frame
frame_is k l e = ap is_given e
