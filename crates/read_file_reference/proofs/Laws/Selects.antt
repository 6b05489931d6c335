-- 0B 02, by the map that was found.
-- Assumes nothing.
use mathlib.Core.Path.{◌≡◌, refl, sym, ap, ◌∙◌}
use mathlib.Core.Option.{Option as Maybe, none, some}
use mathlib.Core.List.{List}
use Rattle.std.specs.Prelude.{Option, Some, None}
use Prim.Native.Nat.{ℕ, ◌^◌, ◌<◌, ◌≤◌}
use native.Mathlib.Omega.{arith}
use lib.ListN.{length, drop}
use Rattle.util.specs.Groups.{Seven}
use Rattle.util.specs.Options.{map_option}
use Rattle.util.specs.declared.refusal.Refusal.TheVariants as R
use Rattle.util.proofs.Laws.Options.{not_some, some_none, map_option_some}
use Rattle.messages.specs.declared.head.Head.{Head}
use Rattle.messages.specs.declared.head.Head.TheVariants as head
use Rattle.messages.specs.declared.system_exclusive.DeviceID.{DeviceID}
use Rattle.messages.specs.declared.system_exclusive.UniversalNonRealTimeMsg.TheVariants.{FileReference}
use Rattle.messages.specs.declared.file_reference.FileReferenceMsg.TheVariants.{SelectContents}
use Rattle.messages.specs.declared.file_reference.SelectMap.{SelectMap}
use Rattle.messages.specs.declared.file_reference.SelectMap.TheVariants.{SoundFile, WAV, SoundFileBankOffset, WAVBankOffset}
use Rattle.messages.specs.format.Core.{Whole}
use Rattle.messages.specs.format.Sequence.{◌⊗w◌}
use Rattle.messages.specs.format.Views.{◌namedW◌}
use Rattle.messages.specs.format.Tests.{sized}
use Rattle.messages.specs.Fields.{u14}
use Rattle.messages.specs.Records.{Select, select}
use Rattle.messages.specs.Maps.{BankSelect, WAVSelect, AnySelect, of_bank, of_wav, bank_select, bank_short, bank_only, wav_select, wav_short, wav_only, select_length}
use Rattle.messages.specs.Layouts.{form, text_at}
use Rattle.messages.specs.Messages.{Message, Answer, make, refused, given, plain_answer}
use Rattle.messages.specs.MessageOf.{head_select, fields_select, any_select}
use Rattle.read_places.specs.declared.Found.{Found}
use Rattle.read_places.specs.Places.{value_at}
use Rattle.read_places.specs.Found.{entries_select, Reads, found}
use Rattle.read_file_reference.specs.declared.maps.Picked.{Picked}
use Rattle.read_file_reference.specs.Picked.{Picks}
use Rattle.read_file_reference.proofs.Laws.Sized.{sent_none, sent_other, sent_reads}

-- ---- the message of a context and a map

abbrev message : DeviceID → ℕ → AnySelect → Message
message d c (of_bank y) = make d head.SelectSoundFile (record { context = c; map = y })
message d c (of_wav y) = make d head.SelectWAV (record { context = c; map = y })

message_is : (d : DeviceID) (c : ℕ) (m : SelectMap) (l : List ℕ) → make d (head_select m) (fields_select c m l) ≡ message d c (any_select m l)
message_is d c SoundFile l = refl
message_is d c (WAV m) l = refl
message_is d c (SoundFileBankOffset o b) l = refl
message_is d c (WAVBankOffset m o b) l = refl

abbrev answer_of : {M : Type 0} → (M → AnySelect) → DeviceID → Maybe (Select M) → Answer Message
answer_of of d none = refused R.Field
answer_of of d (some x) = given (message d x.context (of x.map))

-- ---- a kind of file

-- what the head h reads for it, behind the context and the length: a map, which q reads among those of both kinds
record FileKind (M : Type 0) (h : Head) (q : Whole AnySelect) : Type 1 where
  part : Whole M
  of : M → AnySelect
  short : (y : M) → part.settled y → select_length (of y) < 128 ^ 2
  read : (l : List ℕ) → q.read l ≡ map_option of (part.read l)
  answer : (d : DeviceID) (f : List ℕ) → plain_answer d h ((form h).read f) ≡ answer_of of d ((u14 ⊗w sized (λ y. select_length (of y)) part short namedW select).read f)
  text : text_at h ≡ 0

bank : FileKind BankSelect head.SelectSoundFile bank_only
bank = record { part = bank_select; of = of_bank; short = bank_short; read = λ l. grind arith; answer = λ d f. grind arith; text = refl }

wav : FileKind WAVSelect head.SelectWAV wav_only
wav = record { part = wav_select; of = of_wav; short = wav_short; read = λ l. grind arith; answer = λ d f. grind arith; text = refl }

-- ---- by what was found

-- the select of a map that was found
abbrev pub selected : ℕ → Picked → Found
selected c o = found (FileReference (SelectContents c o.map)) 0 0 o.at o.count

-- what `select_of` owes: where q is what was found of the fields, r is what was read of them, for either kind of file
abbrev pub Selects : Option Picked → Option Found → List ℕ → Type 0
Selects q r f = (Picks bank_only q f 4 → Reads head.SelectSoundFile r f) × (Picks wav_only q f 4 → Reads head.SelectWAV r f)

module _ (f : List ℕ) (s : Seven f) (n : 4 ≤ length f) where
  module _ {M : Type 0} {h : Head} {q : Whole AnySelect} (k : FileKind M h q) where
    kind_none : (u14 ⊗w sized (λ y. select_length (k.of y)) k.part k.short namedW select).read f ≡ none → Reads h None f
    kind_none e = record { says = λ d. sym (k.answer d f ∙ ap (answer_of k.of d) e); part = tt; start = tt }

    kind_nothing : Picks q None f 4 → Reads h None f
    kind_nothing p =
        kind_none
        (sent_none k.part k.short select f s n
        (not_some (k.part.read (drop 4 f)) λ y d. some_none (sym (k.read (drop 4 f) ∙ ap (map_option k.of) d) ∙ sym p.says)))

    module _ {o : Picked} (p : Picks q (Some o) f 4) where
      kind_unsaid : (value_at 2 f 2 ≡ o.length → ⊥) → Reads h None f
      kind_unsaid u =
          map_option_some k.of (k.part.read (drop 4 f)) (sym (p.says ∙ k.read (drop 4 f))) λ y d z.
          kind_none (sent_other k.part k.short select f s n y d (λ v. u (v ∙ ap select_length z ∙ sym p.part.0)))

      kind_found : value_at 2 f 2 ≡ o.length → Reads h (Some (selected (value_at 2 f 0) o)) f
      kind_found v =
          map_option_some k.of (k.part.read (drop 4 f)) (sym (p.says ∙ k.read (drop 4 f))) λ y d z.
          let c = value_at 2 f 0 in
          let e = sent_reads k.part k.short select f s n y d (v ∙ p.part.0 ∙ ap select_length (sym z)) in
          record {
            says = λ d. ap given (message_is d c o.map (entries_select o.map f o.at o.count) ∙ ap (message d c) (sym z))
                ∙ sym (k.answer d f ∙ ap (answer_of k.of d) e);
            part = omega (arith, p.part);
            start = (sym k.text, rw k.text);
          }

  pub select_nothing : Selects None None f
  select_nothing = (kind_nothing bank, kind_nothing wav)

  module _ {o : Picked} where
    pub select_unsaid : (value_at 2 f 2 ≡ o.length → ⊥) → Selects (Some o) None f
    select_unsaid u = (λ p. kind_unsaid bank p u, λ p. kind_unsaid wav p u)

    pub select_found : value_at 2 f 2 ≡ o.length → Selects (Some o) (Some (selected (value_at 2 f 0) o)) f
    select_found v = (λ p. kind_found bank p v, λ p. kind_found wav p v)
