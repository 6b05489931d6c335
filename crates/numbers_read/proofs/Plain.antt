-- A reading that needs no lent space, as a reading of what is lent. Assumes nothing.
use mathlib.Core.Path.{◌≡◌, refl, sym, ap, subst}
use mathlib.Core.Bool.{Bool, true, false}
use mathlib.Core.List.{List, [], ◌∷◌}
use Prim.Native.Nat.{ℕ, ◌+◌}
use native.Mathlib.Omega.{arith}
use lib.ListN.{length, get_or}
use borrow.Author.Tests.{le-leb}
use Rattle.messages.specs.declared.head.Head.{Head}
use Rattle.messages.specs.declared.system_exclusive.DeviceID.{DeviceID}
use Rattle.messages.specs.declared.system_exclusive.UniversalNonRealTimeMsg.{UniversalNonRealTimeMsg}
use Rattle.messages.specs.Fields.{device_of}
use Rattle.messages.specs.Messages.{Message, Answer}
use Rattle.std.specs.Prelude.{Some, Result, Ok}
use Rattle.util.specs.declared.refusal.Refusal.{Refusal}
use Rattle.read_places.specs.declared.Found.{Found}
use Rattle.read_places.specs.Found.{Reads, data_of, entries_of}
use Rattle.util.proofs.Laws.Options.{false_true}
use Rattle.reader.specs.declared.lent.Reading.{Reading}
use Rattle.reader.specs.declared.opening.Opening.{Opening}
use Rattle.reader.specs.Opening.{inner, opens_as, placed}
use Rattle.reader.specs.Reading.{reading_number, ReadMet}
use Rattle.reader.specs.Filled.{enough, Filled}
use Rattle.reader.proofs.Laws.Fields.{lent_fields, reading, begin, read_right}
use Rattle.numbers_read.specs.Read.{ReadTo}
use Rattle.numbers_read.specs.Plain.{ReadPlain, Numbered}

no_elements : (l : List ℕ) → length l ≡ 0 → l ≡ []
no_elements [] e = refl
no_elements (x ∷ l) e = absurd (omega arith)

-- a message that takes no places fills any lent space
filled : (x : Reading) (i : ℕ) (f dat es : List ℕ) → length (data_of x.m f i) + length (entries_of x.m f i x.places) ≡ x.places → x.places ≡ 0
    → Filled (Ok x) x i f dat dat es es
filled x i f dat es s e =
    let a : data_of x.m f i ≡ [] = no_elements (data_of x.m f i) (omega (arith, s, e)) in
    let b : entries_of x.m f i x.places ≡ [] = no_elements (entries_of x.m f i x.places) (omega (arith, s, e)) in
    let t : enough x.m f i x.places dat es ≡ true = rw (a, b, le-leb 0 (length dat) (omega arith), le-leb 0 (length es) (omega arith)) in
    record { says = rw t; data_is = rw (t, a); entries_are = rw (t, b) }

module _ (frame : List ℕ) (o : Opening) (p : placed (Ok o) (inner frame)) where
  -- the fields are such a message
  pub plain_met : {z : Found} (w : Reads o.h (Some z) (lent_fields frame o p)) → z.count ≡ 0 → o.sum ≡ true
      → (d : DeviceID) (b : ℕ) → d ≡ device_of (get_or frame 2 0) → b ≡ begin frame o p w → (dat es : List ℕ)
      → ReadMet (Ok (reading frame o p w d b)) (opens_as (Ok o) (inner frame)) frame dat dat es es
  plain_met {z} w e t d b q x dat es =
      read_right frame o p w (Ok (reading frame o p w d b)) d b q t x dat dat es es
      (filled (reading frame o p w d b) z.at (lent_fields frame o p) dat es w.part.3 e)

module _ (a : Answer Message) (frame answer answer' : List ℕ) where
  -- its numbers were put, or they were not
  pub plain_put : (t : Bool) (r : Result Reading Refusal) → Numbered t r answer answer' → 0 ≡ reading_number r → ((dat es : List ℕ) → ReadMet r a frame dat dat es es)
      → ReadPlain t a frame answer answer'
  plain_put true r x z w = record { reading = r; met = w; number_is = z; answer_is = x }
  plain_put false r x z w = x

  -- it was read
  pub plain_to : (t : Bool) → ReadPlain t a frame answer answer' → t ≡ true → (dat es : List ℕ) → ReadTo a 0 frame dat dat es es answer answer'
  plain_to true r e dat es = record { reading = r.reading; met = r.met dat es; number_is = r.number_is; answer_is = r.answer_is }
  plain_to false r e dat es = absurd (false_true e)

  -- it was not, and was read in another way
  pub other_to : (t : Bool) → ReadPlain t a frame answer answer' → t ≡ false → (n : ℕ) (dat dat' es es' last : List ℕ)
      → ReadTo a n frame dat dat' es es' answer' last → ReadTo a n frame dat dat' es es' answer last
  other_to true r e n dat dat' es es' last x = absurd (false_true (sym e))
  other_to false r e n dat dat' es es' last x = subst (λ (l : List ℕ). ReadTo a n frame dat dat' es es' l last) r x

-- a reading by other words
pub read_to : {a b : Answer Message} {n : ℕ} {frame dat dat' es es' answer answer' : List ℕ} → a ≡ b → ReadTo a n frame dat dat' es es' answer answer'
    → ReadTo b n frame dat dat' es es' answer answer'
read_to {a} {b} {n} {frame} {dat} {dat'} {es} {es'} {answer} {answer'} e x =
    subst (λ (c : Answer Message). ReadTo c n frame dat dat' es es' answer answer') e x
