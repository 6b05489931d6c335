-- What the layouts of identity, General MIDI and handshake messages read, by place.
-- Assumes nothing.
use mathlib.Core.Path.{◌≡◌, refl, sym, ap}
use mathlib.Core.Bool.{true, false}
use mathlib.Core.Option.{none, some}
use mathlib.Core.List.{List, [], ◌∷◌}
use Prim.Native.Nat.{ℕ, ◌≤◌, ◌<◌}
use native.Mathlib.Omega.{arith}
use lib.Dec.{lit<, lit≤, eqb}
use lib.ListN.{length, drop, get_or}
use borrow.Author.Tests.{eqb-true}
use Rattle.util.specs.Limits.{most_maker}
use Rattle.util.specs.Groups.{Seven}
use Rattle.util.proofs.Laws.Options.{not_some}
use Rattle.messages.specs.declared.head.Head.TheVariants as head
use Rattle.messages.specs.declared.system_exclusive.ManufacturerID.TheVariants.{OneByte, Extended}
use Rattle.messages.specs.format.Core.{Whole}
use Rattle.messages.specs.format.Sequence.{◌⊗◌, end, nothing, strip}
use Rattle.messages.specs.format.Tests.{other_length}
use Rattle.messages.specs.Fields.{u7, zero_then, one_byte_maker, extended_maker}
use Rattle.messages.specs.Structures.{AfterMaker, after_maker, reply}
use Rattle.messages.specs.Layouts.{form}
use Rattle.read_places.specs.Places.{value_at}
use Rattle.read_places.proofs.Laws.Numbers.{unsigned_at, range_at}
use Rattle.read_places.proofs.Laws.Answers.{none_left}
use Rattle.read_system_exclusive.specs.Replies.{after_maker_at, one_zero}

-- ---- no fields

pub nothing_reads : (f : List ℕ) → length f ≡ 0 → (end nothing).read f ≡ some tt
nothing_reads f n = rw (none_left f 0 n)

pub nothing_not : (f : List ℕ) → (length f ≡ 0 → ⊥) → (end nothing).read f ≡ none
nothing_not f k = other_length (end nothing) 0 (λ a. refl) f k

-- ---- the one byte 00

pub zero_reads : (f : List ℕ) → one_zero f ≡ true → (end (zero_then nothing)).read f ≡ some tt
zero_reads [] e = let z : ◌≡◌ {A = ℕ} 0 1 = cc in absurd (omega arith)
zero_reads (b ∷ []) e = rw (eqb-true b 0 e)
zero_reads (b ∷ c ∷ l) e = let z : ◌≡◌ {A = ℕ} 0 1 = cc in absurd (omega arith)

pub zero_not : (f : List ℕ) → one_zero f ≡ false → (end (zero_then nothing)).read f ≡ none
zero_not f k =
    not_some ((end (zero_then nothing)).read f)
    λ a e. let t : one_zero f ≡ true = ap one_zero (sym ((end (zero_then nothing)).only f a e).1) in
    let z : ◌≡◌ {A = ℕ} 0 1 = cc in
    omega arith

pub one_zero_size : (f : List ℕ) → (length f ≡ 1 → ⊥) → false ≡ one_zero f
one_zero_size [] k = refl
one_zero_size (b ∷ []) k = absurd (k refl)
one_zero_size (b ∷ c ∷ l) k = refl

pub one_zero_get : (f : List ℕ) → length f ≡ 1 → eqb (get_or f 0 0) 0 ≡ one_zero f
one_zero_get [] n = absurd (omega arith)
one_zero_get (b ∷ []) n = refl
one_zero_get (b ∷ c ∷ l) n = absurd (omega arith)

-- ---- a packet's number

pub number_reads : (f : List ℕ) → Seven f → length f ≡ 1 → (end u7).read f ≡ some (value_at 1 f 0)
number_reads f s n = rw (unsigned_at f s 1 0 (omega arith), none_left f 1 n)

pub number_not : (f : List ℕ) → (length f ≡ 1 → ⊥) → (end u7).read f ≡ none
number_not f k = other_length (end u7) 1 (λ a. refl) f k

-- ---- identity replies

abbrev one_byte : Whole (ℕ × AfterMaker)
one_byte = end (one_byte_maker ⊗ after_maker)

abbrev extended : Whole ((ℕ × ℕ) × AfterMaker)
extended = end (extended_maker ⊗ after_maker)

pub one_byte_reads : (f : List ℕ) → Seven f → length f ≡ 9 → 1 ≤ get_or f 0 0 → get_or f 0 0 ≤ most_maker
    → (form head.IdentityReply).read f ≡ some (reply (OneByte (get_or f 0 0)) (after_maker_at f 1))
one_byte_reads f s n p q =
    rw (
      range_at 1 most_maker (lit≤ tt) (lit< tt) f 0 (omega arith) p q,
      unsigned_at f s 2 1 (omega arith),
      unsigned_at f s 2 3 (omega arith),
      unsigned_at f s 1 5 (omega arith),
      unsigned_at f s 1 6 (omega arith),
      unsigned_at f s 1 7 (omega arith),
      unsigned_at f s 1 8 (omega arith),
      none_left f 9 n,
    )

-- no reply with a maker of one byte: another length, or another maker
pub one_byte_size : (f : List ℕ) → (length f ≡ 9 → ⊥) → one_byte.read f ≡ none
one_byte_size f k = other_length one_byte 9 (λ a. refl) f k

pub one_byte_maker_not : (f : List ℕ) → ((1 ≤ get_or f 0 0) × (get_or f 0 0 ≤ most_maker) → ⊥) → one_byte.read f ≡ none
one_byte_maker_not f k =
    not_some (one_byte.read f)
    λ a e. let w = one_byte.only f a e in
    let x : get_or f 0 0 ≡ a.0 = sym (ap (λ (l : List ℕ). get_or l 0 0) w.1) in
    k (rw x w.0.0)

-- no reply with a maker of 00 and two bytes: another length, or another first byte
pub extended_size : (f : List ℕ) → (length f ≡ 11 → ⊥) → extended.read f ≡ none
extended_size f k = other_length extended 11 (λ a. refl) f k

pub extended_maker_not : (f : List ℕ) → (get_or f 0 0 ≡ 0 → ⊥) → extended.read f ≡ none
extended_maker_not f k =
    not_some (extended.read f) λ a e. k (sym (ap (λ (l : List ℕ). get_or l 0 0) (extended.only f a e).1))

pub reply_not : (f : List ℕ) → one_byte.read f ≡ none → extended.read f ≡ none → (form head.IdentityReply).read f ≡ none
reply_not f p q = rw (p, q)

zero_first : (f : List ℕ) → 0 < length f → get_or f 0 0 ≡ 0 → strip (0 ∷ []) f ≡ some (drop 1 f)
zero_first [] h e = absurd (omega arith)
zero_first (b ∷ l) h e = rw e

pub extended_reads : (f : List ℕ) → Seven f → length f ≡ 11 → get_or f 0 0 ≡ 0
    → (form head.IdentityReply).read f ≡ some (reply (Extended (value_at 1 f 1) (value_at 1 f 2)) (after_maker_at f 3))
extended_reads f s n e =
    rw (
      one_byte_size f (omega arith),
      zero_first f (omega arith) e,
      unsigned_at f s 1 1 (omega arith),
      unsigned_at f s 1 2 (omega arith),
      unsigned_at f s 2 3 (omega arith),
      unsigned_at f s 2 5 (omega arith),
      unsigned_at f s 1 7 (omega arith),
      unsigned_at f s 1 8 (omega arith),
      unsigned_at f s 1 9 (omega arith),
      unsigned_at f s 1 10 (omega arith),
      none_left f 11 n,
    )
