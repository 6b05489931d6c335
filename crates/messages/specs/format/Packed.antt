-- The data of a file packet (01, 07 02): a count byte, and the packed bytes.
use Rattle.std.specs.Prelude.{◌≡◌, refl, List, [], ◌∷◌, ℕ, suc, ◌+◌, ◌/◌, ◌≤◌, min, eqb, leb, length}
use Rattle.std.proofs.Common.{sym, subst, ap, ap₂, arith, lit<, eqb-true, eq-eqb, leb-true, le-leb}
use Rattle.std.proofs.Math.Option.{Option, none, some}
use Rattle.util.specs.Limits.{most_data}
use Rattle.util.specs.Groups.{Seven, seven}
use Rattle.util.specs.Options.{only_if, unless}
use Rattle.util.specs.Packing.{pack, unpack, Bytes}
use Rattle.util.proofs.Laws.Groups.{seven_true, true_seven}
use Rattle.util.proofs.Laws.Options.{none_some, only_if_some, unless_none}
use Rattle.util.proofs.Laws.Packing.{unpack_pack, unpack_only, pack_seven}
use Rattle.util.specs.declared.refusal.Refusal.TheVariants.{Long}
use Rattle.messages.specs.format.Core.{Whole}

-- ---- the count byte, and the packed data

abbrev pub held_bytes : List ℕ → List ℕ
held_bytes [] = []
held_bytes (x ∷ l) = min x 255 ∷ held_bytes l

-- 01's count byte: "n + n div 7"
abbrev pub count_byte : List ℕ → ℕ
count_byte l = length l + length l / 7

abbrev pub counted_as : ℕ → Option (List ℕ) → Option (List ℕ)
counted_as n none = none
counted_as n (some l) = only_if (eqb n (count_byte l)) (only_if (leb (length l) most_data) (some l))

abbrev pub read_packed : List ℕ → Option (List ℕ)
read_packed [] = none
read_packed (n ∷ bs) = only_if (seven bs) (counted_as n (unpack 0 0 bs))

abbrev pub packed_ok : List ℕ → Type 0
packed_ok l = Bytes l × (length l ≤ most_data)

pub held_bytes_bytes : (l : List ℕ) → Bytes (held_bytes l)
held_bytes_bytes [] = tt
held_bytes_bytes (x ∷ l) = (omega arith, held_bytes_bytes l)

pub held_bytes_length : (l : List ℕ) → length (held_bytes l) ≡ length l
held_bytes_length [] = refl
held_bytes_length (x ∷ l) = ap suc (held_bytes_length l)

pub held_bytes_same : (l : List ℕ) → Bytes l → held_bytes l ≡ l
held_bytes_same [] h = refl
held_bytes_same (x ∷ l) h = let e : min x 255 ≡ x = omega arith in rw (e, held_bytes_same l h.1)

pub packed_keeps : (l : List ℕ) → unless Long (leb (length l) most_data) ≡ none → packed_ok (held_bytes l)
packed_keeps l e = (held_bytes_bytes l, rw (held_bytes_length l) (leb-true (length l) most_data (unless_none Long (leb (length l) most_data) e)))

pub packed_stays : (l : List ℕ) → packed_ok l → (unless Long (leb (length l) most_data) ≡ none) × (held_bytes l ≡ l)
packed_stays l h = (ap (unless Long) (le-leb (length l) most_data h.1), held_bytes_same l h.0)

pub packed_seven : (l : List ℕ) → packed_ok l → Seven (count_byte l ∷ pack 0 l)
packed_seven l h = (omega arith, pack_seven 0 l h.0)

pub packed_back : (l : List ℕ) → packed_ok l → read_packed (count_byte l ∷ pack 0 l) ≡ some l
packed_back l h =
    rw (true_seven (pack 0 l) (pack_seven 0 l h.0), unpack_pack 0 l h.0, eq-eqb (count_byte l) _ refl, le-leb (length l) most_data h.1)

pub counted_as_some : (n : ℕ) (o : Option (List ℕ)) (l : List ℕ) → counted_as n o ≡ some l → (o ≡ some l) × (count_byte l ≡ n) × (length l ≤ most_data)
counted_as_some n none l e = absurd (none_some e)
counted_as_some n (some m) l e =
    only_if_some (eqb n (count_byte m)) e λ t e₁. only_if_some (leb (length m) most_data) e₁ λ u e₂.
    let y : m ≡ l = cc in
    subst (λ (l : List ℕ). (some m ≡ some l) × (count_byte l ≡ n) × (length l ≤ most_data)) y (refl, sym (eqb-true n (count_byte m) t), leb-true (length m) most_data u)

pub packed_only : (bs l : List ℕ) → read_packed bs ≡ some l → packed_ok l × (count_byte l ∷ pack 0 l ≡ bs)
packed_only [] l e = absurd (none_some e)
packed_only (n ∷ bs) l e =
    only_if_some (seven bs) e λ t e₁.
    let q = counted_as_some n (unpack 0 0 bs) l e₁ in
    let p = unpack_only 0 0 bs l (lit< tt) (seven_true bs t) q.0 in
    ((p.0, q.2), ap₂ (λ (x : ℕ) (m : List ℕ). x ∷ m) q.1 p.2)

abbrev pub packed : Whole (List ℕ)
packed =
    record {
      refuses = λ l. unless Long (leb (length l) most_data);
      settle = held_bytes;
      settled = packed_ok;
      bytes = λ l. count_byte l ∷ pack 0 l;
      read = read_packed;
      keeps = packed_keeps;
      stays = packed_stays;
      low = packed_seven;
      back = packed_back;
      only = packed_only;
    }
