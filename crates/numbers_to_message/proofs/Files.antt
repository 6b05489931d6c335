-- Laws of the proofs: the file type of a number is that of its four bytes.
-- Assumes nothing.
use mathlib.Core.Path.{◌≡◌, refl, sym, ap, ◌∙◌}
use mathlib.Core.List.{List, [], ◌∷◌}
use mathlib.Core.Bool.{Bool, true, false}
use mathlib.Core.Option.{Option, none, some}
use Prim.Native.Nat.{ℕ, ◌+◌, ◌*◌, ◌/◌, ◌%◌, ◌^◌, ◌<◌}
use native.Mathlib.Omega.{arith}
use lib.Dec.{ltb, eqb}
use borrow.Author.Tests.{eq-eqb, ne_eqb, ltb-true}
use Rattle.std.specs.Prelude.{Some}
use Rattle.std.specs.Int.{bytes_high_first}
use Rattle.std.proofs.Common.{⊎_elim}
use Rattle.std.proofs.lemmas.Bool.{cases_Bool}
use Rattle.util.proofs.Laws.Options.{false_true}
use Rattle.util.specs.Pick.{pick}
use Rattle.util.specs.Options.{map_option}
use Rattle.messages.specs.declared.file_dump.FileType.{FileType}
use Rattle.messages.specs.declared.file_dump.FileType.TheVariants.{MIDI, MIEX, ESEQ, TEXT, BIN, MAC, Custom}
use Rattle.messages.specs.format.Texts.{lookup}
use Rattle.messages.specs.Fields.{Four, four, type_chars, type_of, same_four, same_four_true, custom_type, named_types}
use Rattle.numbers_to_message.specs.Values.{below, numbered, or_else, spelled, file_number_of}
use Rattle.numbers_to_message.specs.Fits.{option_of}
use Rattle.numbers_to_message.proofs.Loops.{below_is}

-- the number of four bytes, the first highest
abbrev number : Four → ℕ
number y = ((y.0 * 256 + y.1.0) * 256 + y.1.1.0) * 256 + y.1.1.1

abbrev Bytes : Four → Type 0
Bytes y = (y.0 < 256) × ((y.1.0 < 256) × ((y.1.1.0 < 256) × (y.1.1.1 < 256)))

same_self : (y z : Four) → y ≡ z → same_four y z ≡ true
same_self y z e =
    rw (
      eq-eqb y.0 z.0 (ap (λ (u : Four). u.0) e),
      eq-eqb y.1.0 z.1.0 (ap (λ (u : Four). u.1.0) e),
      eq-eqb y.1.1.0 z.1.1.0 (ap (λ (u : Four). u.1.1.0) e),
      eq-eqb y.1.1.1 z.1.1.1 (ap (λ (u : Four). u.1.1.1) e),
    )

digits : (y z : Four) → Bytes y → Bytes z → number z ≡ number y → y ≡ z
digits y z b c e =
    let p : y.0 ≡ z.0 = omega (arith, b, c, e) in
    let q : y.1.0 ≡ z.1.0 = omega (arith, b, c, e) in
    let r : y.1.1.0 ≡ z.1.1.0 = omega (arith, b, c, e) in
    let s : y.1.1.1 ≡ z.1.1.1 = omega (arith, b, c, e) in
    λ i. (p i, (q i, (r i, s i)))

-- bytes are the same where their numbers are
same_is : (y z : Four) → Bytes y → Bytes z → same_four y z ≡ eqb (number z) (number y)
same_is y z b c = ⊎_elim
    (λ e. e ∙ sym (eq-eqb (number z) (number y) (sym (ap number (same_four_true y z e)))))
    (λ e. e ∙ sym (ne_eqb (number z) (number y) (λ q. false_true (sym e ∙ same_self y z (digits y z b c q)))))
    (cases_Bool (same_four y z))

abbrev AllBytes : List FileType → Type 0
AllBytes [] = Unit {0}
AllBytes (t ∷ ts) = Bytes (type_chars t) × AllBytes ts

picked : (b : Bool) (t d : FileType) (o : Option FileType) (u : FileType) → u ≡ or_else o d → pick b t u ≡ or_else (pick b (some t) o) d
picked true t d o u e = refl
picked false t d o u e = e

-- what four bytes name in a table, their number names
named_by : (ts : List FileType) → AllBytes ts → (z : Four) → Bytes z → lookup same_four type_chars custom_type ts z ≡ or_else (numbered file_number_of ts (number z)) (custom_type z)
named_by [] b z c = refl
named_by (t ∷ ts) b z c = rw (same_is (type_chars t) z b.0 c) (picked (eqb (number z) (number (type_chars t))) t _ _ _ (named_by ts b.1 z c))

pub type_named : (z : Four) → Bytes z → type_of z ≡ or_else (numbered file_number_of named_types (number z)) (custom_type z)
type_named = named_by named_types (omega arith)

-- the type of a number's bytes
spelled_bytes : (x : ℕ) → x < 2 ^ 32 → type_of (four (bytes_high_first 4 x)) ≡ spelled x
spelled_bytes x h =
    let z = four (bytes_high_first 4 x) in
    let n : number z ≡ x = omega (arith, h) in
    let top : x / 2 ^ 24 % 256 ≡ x / 2 ^ 24 = omega (arith, h) in
    type_named z (omega arith) ∙ rw (n, top) refl

spelled_by : (b : Bool) (x n : ℕ) → ltb x (2 ^ 32) ≡ b → Some n ≡ option_of (pick b (some x) none) → Some (type_of (four (bytes_high_first 4 n))) ≡ option_of (map_option spelled (pick b (some x) none))
spelled_by true x n h e = ap Some (rw (below_is true x n e) (spelled_bytes x (ltb-true x (2 ^ 32) h)))
spelled_by false x n h e = cc

pub file_type_named : (x n : ℕ) → Some n ≡ option_of (below (2 ^ 32) x) → Some (type_of (four (bytes_high_first 4 n))) ≡ option_of (map_option spelled (below (2 ^ 32) x))
file_type_named x n e = spelled_by (ltb x (2 ^ 32)) x n refl e

-- ---- a custom type is no named one

abbrev is_named : FileType → Bool
is_named MIDI = true
is_named MIEX = true
is_named ESEQ = true
is_named TEXT = true
is_named BIN = true
is_named MAC = true
is_named (Custom l) = false

abbrev AllNamed : List FileType → Type 0
AllNamed [] = Unit {0}
AllNamed (t ∷ ts) = (is_named t ≡ true) × AllNamed ts

-- one name more that is not spelled
no_name : (l : List ℕ) (b : Bool) (t : FileType) (o : Option FileType) → is_named t ≡ true → (or_else o (Custom l) ≡ Custom l → o ≡ none)
    → or_else (pick b (some t) o) (Custom l) ≡ Custom l → pick b (some t) o ≡ none
no_name l true t o p k e = absurd (false_true (sym (ap is_named e) ∙ p))
no_name l false t o p k e = k e

none_of : (ts : List FileType) → AllNamed ts → (x : ℕ) (l : List ℕ) → or_else (numbered file_number_of ts x) (Custom l) ≡ Custom l → numbered file_number_of ts x ≡ none
none_of [] p x l e = refl
none_of (t ∷ ts) p x l e = no_name l (eqb x (file_number_of t)) t _ p.0 (none_of ts p.1 x l) e

pub unspelled : (x : ℕ) (l : List ℕ) → or_else (numbered file_number_of named_types x) (Custom l) ≡ Custom l → numbered file_number_of named_types x ≡ none
unspelled = none_of named_types (refl, (refl, (refl, (refl, (refl, (refl, tt))))))
