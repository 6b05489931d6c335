-- Tunings and note changes by place: the entry of bytes, and the value that an entry says.
-- Assumes nothing.
use mathlib.Core.Path.{◌≡◌, refl, sym, ap, ap₂, ◌∙◌}
use mathlib.Core.Bool.{Bool, true, false}
use mathlib.Core.List.{List, [], ◌∷◌}
use Prim.Native.Nat.{ℕ, zero, suc, ◌+◌, ◌*◌, ◌<◌, ◌≤◌}
use native.Mathlib.Omega.{arith}
use native.Mathlib.Numerals.{add-one}
use lib.Dec.{eqb}
use lib.ListN.{length, take, drop, get_or, get_or-eq_default}
use lib.Seq.{drop-cons}
use borrow.Author.Tests.{eqb-true}
use Rattle.util.specs.Groups.{largest}
use Rattle.util.specs.Limits.{no_tuning}
use Rattle.util.specs.Groups.{Seven, value_high}
use Rattle.util.specs.Pick.{pick}
use Rattle.util.proofs.Laws.Groups.{both_true}
use Rattle.std.specs.Prelude.{Option, None}
use Rattle.messages.specs.declared.tuning.Tuning.{Tuning}
use Rattle.messages.specs.format.Core.{got}
use Rattle.messages.specs.Fields.{tuning, tuning_named, tuned, is_none}
use Rattle.messages.specs.Structures.{key_tuning}
use Rattle.messages.specs.Entries.{tuning_entry, tuning_of, change_entry, change_of}
use Rattle.messages.proofs.Entries.{Within, tuning_back, change_back}
use Rattle.read_places.specs.Places.{value_at, tuning_at, change_at}
use Rattle.read_places.proofs.Laws.Numbers.{unsigned_at, high_at, value_lt, value_high_lt, value_get}

-- ---- the entry that the code computes

-- by the test for no tuning
named_by : (a v : ℕ) (t : Bool) → is_none (a, v) ≡ t → v < 65536 → (a * 65536 + v ≡ 8339455 → ⊥) → a * 65536 + v ≡ tuning_entry (pick t None (tuned (a, v)))
named_by a v true e h k =
    let z = both_true (eqb a (largest 1)) (eqb v (largest 2)) e in
    absurd (k (omega (arith, eqb-true a (largest 1) z.0, eqb-true v (largest 2) z.1)))
named_by a v false e h k = refl

pub named_other : (a v : ℕ) → v < 65536 → (a * 65536 + v ≡ 8339455 → ⊥) → a * 65536 + v ≡ tuning_entry (tuning_named (a, v))
named_other a v h k = named_by a v (is_none (a, v)) refl h k

pub named_none : (a v : ℕ) → v < 65536 → a * 65536 + v ≡ 8339455 → no_tuning ≡ tuning_entry (tuning_named (a, v))
named_none a v h e =
    let x : a ≡ largest 1 = omega arith in
    let y : v ≡ largest 2 = omega arith in
    rw (x, y)

-- ---- the two bytes of a fraction, and what is left of them at the end

pub fraction_at : (f : List ℕ) (i : ℕ) → i + 2 ≤ length f → value_high (take 2 (drop i f)) ≡ get_or f i 0 * 128 + get_or f (i + 1) 0
fraction_at f i h =
    let p : i < length f = omega arith in
    let q : suc i < length f = omega arith in
    rw (drop-cons f i 0 p, drop-cons f (suc i) 0 q, add-one i) (omega arith)

pub fraction_cut : (f : List ℕ) (i : ℕ) → length f ≤ i + 1 → value_high (take 2 (drop i f)) ≡ get_or f i 0
fraction_cut [] zero h = refl
fraction_cut [] (suc i) h = refl
fraction_cut (x ∷ []) zero h = omega arith
fraction_cut (x ∷ y ∷ f) zero h = absurd (omega arith)
fraction_cut (x ∷ f) (suc i) h = fraction_cut f i (omega arith)

-- ---- the value that an entry says

named_within : (a v : ℕ) (t : Bool) → a < 256 → v < 65536 → Within (pick t None (tuned (a, v)))
named_within a v true h g = tt
named_within a v false h g = (h, g)

module _ (f : List ℕ) (s : Seven f) where
  within : (i : ℕ) → i + 3 ≤ length f → Within (tuning_at f i)
  within i h =
      let a : value_at 1 f i < 128 = value_lt f s 1 i (omega arith) in
      let v : value_high (take 2 (drop (i + 1) f)) < 16384 = value_high_lt f s 2 (i + 1) (omega arith) in
      named_within (value_at 1 f i) (value_high (take 2 (drop (i + 1) f))) (is_none (value_at 1 f i, value_high (take 2 (drop (i + 1) f)))) (omega arith) (omega arith)

  tuning_plain : (i : ℕ) → i + 3 ≤ length f → tuning.read (drop i f) ≡ got (tuning_at f i) (drop (i + 3) f)
  tuning_plain i h =
      let e : (i + 1) + 2 ≡ i + 3 = omega arith in
      rw (unsigned_at f s 1 i (omega arith), high_at f s 2 (i + 1) (omega arith), e)

  pub tuning_reads : (i : ℕ) → i + 3 ≤ length f → tuning.read (drop i f) ≡ got (tuning_of (tuning_entry (tuning_at f i))) (drop (i + 3) f)
  tuning_reads i h = tuning_plain i h ∙ ap (λ (t : Option Tuning). got t (drop (i + 3) f)) (sym (tuning_back (tuning_at f i) (within i h)))

  change_plain : (i : ℕ) → i + 4 ≤ length f → key_tuning.read (drop i f) ≡ got (change_at f i) (drop (i + 4) f)
  change_plain i h =
      let e : (i + 1) + 3 ≡ i + 4 = omega arith in
      rw (unsigned_at f s 1 i (omega arith), tuning_plain (i + 1) (omega arith), e)

  pub change_reads : (i : ℕ) → i + 4 ≤ length f → key_tuning.read (drop i f) ≡ got (change_of (change_entry (change_at f i))) (drop (i + 4) f)
  change_reads i h =
      let k : value_at 1 f i < 128 = value_lt f s 1 i (omega arith) in
      rw (change_back (change_at f i) (omega arith) (within (i + 1) (omega arith))) (change_plain i h)

-- ---- the tuning at a place, as the code reads it

-- all three bytes are there
pub tuning_whole : (f : List ℕ) (i : ℕ) → i + 3 ≤ length f → tuning_at f i ≡ tuning_named (get_or f i 0, get_or f (i + 1) 0 * 128 + get_or f (i + 2) 0)
tuning_whole f i h =
    let e : (i + 1) + 1 ≡ i + 2 = omega arith in
    ap₂ (λ (a v : ℕ). tuning_named (a, v)) (value_get f i)
    (fraction_at f (i + 1) (omega arith) ∙ ap (λ (j : ℕ). get_or f (i + 1) 0 * 128 + get_or f j 0) e)

-- the third byte is missing, or more
pub tuning_cut : (f : List ℕ) (i : ℕ) → length f < i + 3 → tuning_at f i ≡ tuning_named (get_or f i 0, get_or f (i + 1) 0)
tuning_cut f i h = ap₂ (λ (a v : ℕ). tuning_named (a, v)) (value_get f i) (fraction_cut f (i + 1) (omega arith))

-- none is there
pub tuning_past : (f : List ℕ) (i : ℕ) → length f ≤ i → tuning_at f i ≡ tuning_named (0, 0)
tuning_past f i h =
    tuning_cut f i (omega arith) ∙ ap₂ (λ (a v : ℕ). tuning_named (a, v)) (get_or-eq_default f 0 {n = i} h) (get_or-eq_default f 0 {n = i + 1} (omega arith))
