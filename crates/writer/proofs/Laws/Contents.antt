-- Laws of refusals: a scan of a URL, the order of a file header's, and what the messages are refused for.
-- Assumes nothing.
use mathlib.Core.Path.{◌≡◌, refl, ap}
use mathlib.Core.Bool.{Bool, true, false, ◌&&◌}
use mathlib.Core.Option.{none, some}
use mathlib.Core.List.{List, [], ◌∷◌, map}
use Prim.Native.Nat.{ℕ, zero, suc}
use native.Mathlib.Omega.{arith}
use lib.Dec.{leb, ltb}
use lib.ListN.{length}
use borrow.Author.Tests.{lt-ltb}
use Rattle.util.specs.Limits.{most_changes}
use Rattle.util.specs.Pick.{pick}
use Rattle.util.specs.Options.{unless}
use Rattle.util.specs.declared.refusal.Refusal.TheVariants.{High, Long, Value}
use Rattle.messages.specs.declared.sample_dump.SampleDumpMsg.{SampleDumpMsg}
use Rattle.messages.specs.declared.sample_dump.SampleDumpMsg.TheVariants as sample
use Rattle.std.specs.Prelude.{Option, Some, None}
use Rattle.messages.specs.declared.general_midi.GeneralMidi.{GeneralMidi}
use Rattle.messages.specs.declared.general_midi.GeneralMidi.TheVariants.{GM1, Off, GM2}
use Rattle.messages.specs.declared.file_reference.FileReferenceType.{FileReferenceType}
use Rattle.messages.specs.declared.file_reference.FileReferenceType.TheVariants.{DLS, SF2, WAV}
use Rattle.messages.specs.declared.file_reference.SelectMap.{SelectMap}
use Rattle.messages.specs.declared.file_reference.SelectMap.TheVariants as select
use Rattle.messages.specs.Refusals.{least}
use Rattle.messages.specs.format.Texts.{is_text}
use Rattle.messages.specs.Fields.{high}
use Rattle.messages.specs.Maps.{AnySelect, of_bank, of_wav}
use Rattle.messages.specs.Entries.{change_of}
use Rattle.messages.specs.Contents.{contents, longer, other_kind}
use Rattle.messages.specs.MessageOf.{head_sample, fields_sample, head_request, fields_request, head_keys, fields_keys, head_midi, fields_midi, head_select, fields_select, any_select}

-- ---- a URL, byte by byte

pub text_step : (b : ℕ) (l : List ℕ) → is_text (b ∷ l) ≡ ((ltb 0 b && ltb b 128) && is_text l)
text_step zero l = refl
text_step (suc b) l = rw (lt-ltb 0 (suc b) (omega arith))

-- ---- the order: HIGH, LONG, VALUE, KIND

-- type HIGH, VALUE, LONG, name HIGH: tested as HIGH, HIGH, LONG, VALUE
pub header_order : (t v l n : Bool)
    → least (unless High t) (least (unless Value v) (least (unless Long l) (unless High n)))
    ≡ pick t (pick n (pick l (unless Value v) (some Long)) (some High)) (some High)
header_order true true true true = refl
header_order true true true false = refl
header_order true true false true = refl
header_order true true false false = refl
header_order true false true true = refl
header_order true false true false = refl
header_order true false false true = refl
header_order true false false false = refl
header_order false true true true = refl
header_order false true true false = refl
header_order false true false true = refl
header_order false true false false = refl
header_order false false true true = refl
header_order false false true false = refl
header_order false false false true = refl
header_order false false false false = refl

-- type HIGH, LONG, name HIGH: tested as HIGH, HIGH, LONG
pub request_order : (t l n : Bool)
    → least (unless High t) (least (unless Long l) (unless High n)) ≡ pick t (pick n (unless Long l) (some High)) (some High)
request_order true true true = refl
request_order true true false = refl
request_order true false true = refl
request_order true false false = refl
request_order false true true = refl
request_order false true false = refl
request_order false false true = refl
request_order false false false = refl

-- VALUE of either of two numbers
pub value_order : (v w : Bool) → least (unless Value v) (unless Value w) ≡ pick v (unless Value w) (some Value)
value_order true w = refl
value_order false true = refl
value_order false false = refl

-- HIGH comes before KIND
pub high_kind : (t : FileReferenceType) (x : AnySelect) → least (some High) (other_kind t x) ≡ some High
high_kind DLS (of_bank x) = refl
high_kind DLS (of_wav x) = refl
high_kind SF2 (of_bank x) = refl
high_kind SF2 (of_wav x) = refl
high_kind WAV (of_bank x) = refl
high_kind WAV (of_wav x) = refl

-- ---- the maps of 0B 03

-- the entries do not matter for the kind
pub kind_entries : (t : FileReferenceType) (m : SelectMap) (entries : List ℕ) → other_kind t (any_select m entries) ≡ other_kind t (any_select m [])
kind_entries DLS select.SoundFile entries = refl
kind_entries SF2 select.SoundFile entries = refl
kind_entries WAV select.SoundFile entries = refl
kind_entries t (select.WAV m) entries = refl
kind_entries t (select.SoundFileBankOffset o d) entries = refl
kind_entries t (select.WAVBankOffset m o d) entries = refl

-- ---- what the messages are refused for

pub sample_none : (m : SampleDumpMsg) (text : List ℕ) → contents (head_sample m) (fields_sample m text) ≡ none
sample_none (sample.Header n f p l s e t) text = refl
sample_none (sample.Packet c) text = refl
sample_none (sample.Request n) text = refl
sample_none (sample.LoopPointTransmission n i t s e) text = refl
sample_none (sample.LoopPointsRequest n i) text = refl

pub request_none : (b : Option ℕ) (p : ℕ) → contents (head_request b) (fields_request b p) ≡ none
request_none None p = refl
request_none (Some b) p = refl

pub keys_high : (b : Option ℕ) (p : ℕ) (text entries : List ℕ) → contents (head_keys b) (fields_keys b p text entries) ≡ high text
keys_high None p text entries = refl
keys_high (Some b) p text entries = refl

pub midi_none : (g : GeneralMidi) → contents (head_midi g) (fields_midi g) ≡ none
midi_none GM1 = refl
midi_none Off = refl
midi_none GM2 = refl

pub select_none : (c : ℕ) (m : SelectMap) (entries : List ℕ) → contents (head_select m) (fields_select c m entries) ≡ none
select_none c select.SoundFile entries = refl
select_none c (select.WAV m) entries = refl
select_none c (select.SoundFileBankOffset o d) entries = refl
select_none c (select.WAVBankOffset m o d) entries = refl

pub length_map : {A : Type 0} (f : ℕ → A) (l : List ℕ) → length (map f l) ≡ length l
length_map f [] = refl
length_map f (x ∷ l) = ap suc (length_map f l)

pub changes_long : (entries : List ℕ) → longer most_changes (map change_of entries) ≡ unless Long (leb (length entries) 127)
changes_long entries = rw (length_map change_of entries)
