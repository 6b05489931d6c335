-- The refusals of contents, rows 1 to 4: the layouts refuse as the rows' words say.
-- Assumes nothing.
use mathlib.Core.Path.{◌≡◌, refl, sym, ap, ap₂, ◌∙◌}
use mathlib.Core.Option.{Option, none, some}
use mathlib.Core.List.{List, [], ◌∷◌}
use Prim.Native.Nat.{ℕ}
use native.Mathlib.Omega.{arith}
use lib.ListN.{take}
use Rattle.util.specs.Limits.{most_changes, most_counted, sample_bytes}
use Rattle.util.proofs.Laws.Options.{least_by_left}
use Rattle.util.proofs.Laws.Refusals.{number_some}
use Rattle.messages.specs.Types.{Refusal, Head, ManufacturerID, FileReferenceType}
use Rattle.messages.specs.declared.head.Head.TheVariants.{SampleDumpHeader, SampleDumpPacket, SampleDumpRequest, LoopPointTransmission, LoopPointsRequest, SampleName, SampleNameRequest, ExtendedHeader, ExtendedLoopPointTransmission, ExtendedLoopPointsRequest, IdentityRequest, IdentityReply, FileDumpHeader, FileDumpPacket, FileDumpRequest, TuningBulkDumpRequest, KeyBasedTuningDump, BankTuningBulkDumpRequest, BankKeyBasedTuningDump, ScaleTuningDump1Byte, ScaleTuningDump2Byte, TuningNoteChange, ScaleTuning1Byte, ScaleTuning2Byte, GeneralMidi1, GeneralMidiOff, GeneralMidi2, FileReferenceOpen, SelectSoundFile, SelectWAV, FileReferenceOpenSelect, FileReferenceClose, EOF, Wait, Cancel, NAK, ACK}
use Rattle.messages.specs.declared.system_exclusive.ManufacturerID.TheVariants.{OneByte, Extended}
use Rattle.messages.specs.declared.file_reference.FileReferenceType.TheVariants.{DLS, SF2, WAV}
use Rattle.messages.specs.Refusals.{rank, least}
use Rattle.messages.specs.format.{Part, all_refuse}
use Rattle.messages.specs.Fields.{u7, s7, s14, tuning, high, type_bytes}
use Rattle.messages.specs.Structures.{key_tuning, AfterMaker, reply, revision, identity_reply}
use Rattle.messages.specs.Maps.{BankSelect, map_list, map_offset, WAVSelect, only_wav_map, wav_map_offset, AnySelect, of_bank, of_wav, bank_select, wav_select, select_for, sound_file_map}
use Rattle.messages.specs.Layouts.{Fields, form}
use Rattle.messages.specs.Messages.{Message, answer_number, refusal_number, refusal, given_unless, write_of}
use Rattle.messages.specs.Contents.{contents, zero_maker, other_kind, too_large, longer}
use Rattle.messages.specs.Promises.{RefusedExactly, WrittenZero}

-- a list of what is never refused
all_none : {A : Type 0} (p : Part A) → ((a : A) → p.refuses a ≡ none) → (l : List A) → all_refuse p l ≡ none
all_none p h [] = refl
all_none p h (x ∷ l) = rw (h x, all_none p h l)

-- a refusal and, after it, a list that is never refused
then_list : {A : Type 0} (p : Part A) → ((a : A) → p.refuses a ≡ none) → (r : Option Refusal) (l : List A) → least r (all_refuse p l) ≡ r
then_list p h r l = rw (all_none p h l) (least_by_left rank r)

-- a name, tested whole, and then a list that is never refused
name_list : {A : Type 0} (p : Part A) → ((a : A) → p.refuses a ≡ none) → (n : List ℕ) (k : ℕ) (l : List A)
    → least (least (high n) (all_refuse u7 (take k n))) (all_refuse p l) ≡ high n
name_list p h n k l = ap (λ (r : Option Refusal). least r (all_refuse p l)) (then_list u7 (λ a. refl) (high n) (take k n)) ∙ then_list p h (high n) l

reply_same : (m : ManufacturerID) (x : AfterMaker) → identity_reply.refuses (reply m x) ≡ zero_maker m
reply_same (OneByte b) x = least_by_left rank _ ∙ least_by_left rank _
reply_same (Extended a b) x = refl

bank_none : (x : BankSelect) → bank_select.refuses x ≡ none
bank_none (map_list l) = all_none sound_file_map (λ a. refl) (take most_counted l)
bank_none (map_offset o) = refl

wav_none : (x : WAVSelect) → wav_select.refuses x ≡ none
wav_none (only_wav_map m) = refl
wav_none (wav_map_offset m o) = refl

map_same : (t : FileReferenceType) (x : AnySelect) → (select_for t).refuses x ≡ other_kind t x
map_same DLS (of_bank x) = bank_none x
map_same DLS (of_wav x) = refl
map_same SF2 (of_bank x) = bank_none x
map_same SF2 (of_wav x) = refl
map_same WAV (of_bank x) = refl
map_same WAV (of_wav x) = wav_none x

two_values : (a b : Option Refusal) → least (least a none) (least (least b none) none) ≡ least a b
two_values a b = ap₂ least (least_by_left rank a) (least_by_left rank (least b none) ∙ least_by_left rank b)

contents_same : (h : Head) (f : Fields h) → (form h).refuses f ≡ contents h f
contents_same SampleName f = then_list u7 (λ a. refl) (high f.name) (take most_counted f.name)
contents_same ExtendedHeader f = two_values (too_large f.rate_whole) (too_large f.rate_fraction)
contents_same IdentityReply f = reply_same f.id (f.family, (f.family_member, revision f.software_revision))
contents_same FileDumpHeader f = rw (least_by_left rank (high (type_bytes f.type)), least_by_left rank (too_large f.length))
contents_same FileDumpPacket f = refl
contents_same FileDumpRequest f = rw (least_by_left rank (high (type_bytes f.type)))
contents_same KeyBasedTuningDump f = name_list tuning (λ a. refl) f.name 16 (take 128 f.tunings)
contents_same BankKeyBasedTuningDump f = name_list tuning (λ a. refl) f.name 16 (take 128 f.tunings)
contents_same ScaleTuningDump1Byte f = name_list s7 (λ a. refl) f.name 16 (take 12 f.scale)
contents_same ScaleTuningDump2Byte f = name_list s14 (λ a. refl) f.name 16 (take 12 f.scale)
contents_same TuningNoteChange f = then_list key_tuning (λ a. refl) (longer most_changes f.changes) (take most_counted f.changes)
contents_same FileReferenceOpen f = refl
contents_same FileReferenceOpenSelect f = rw (map_same f.type f.map)
contents_same SampleDumpPacket f = all_none u7 (λ a. refl) (take sample_bytes f.samples)
contents_same SelectSoundFile f = bank_none f.map
contents_same SelectWAV f = wav_none f.map
contents_same SampleDumpHeader f = refl
contents_same SampleDumpRequest f = refl
contents_same LoopPointTransmission f = refl
contents_same LoopPointsRequest f = refl
contents_same SampleNameRequest f = refl
contents_same ExtendedLoopPointTransmission f = refl
contents_same ExtendedLoopPointsRequest f = refl
contents_same IdentityRequest f = refl
contents_same TuningBulkDumpRequest f = refl
contents_same BankTuningBulkDumpRequest f = refl
contents_same ScaleTuning1Byte f = all_none s7 (λ a. refl) (take 12 f.scale)
contents_same ScaleTuning2Byte f = all_none s14 (λ a. refl) (take 12 f.scale)
contents_same GeneralMidi1 f = refl
contents_same GeneralMidiOff f = refl
contents_same GeneralMidi2 f = refl
contents_same FileReferenceClose f = refl
contents_same EOF f = refl
contents_same Wait f = refl
contents_same Cancel f = refl
contents_same NAK f = refl
contents_same ACK f = refl

-- ---- by number

pub refusal_is : (m : Message) → refusal m ≡ contents m.head m.fields
unfolding refusal
refusal_is m = contents_same m.head m.fields

unless_number : {A : Type 0} (o : Option Refusal) (a : A) → answer_number (given_unless o a) ≡ refusal_number o
unless_number none a = refl
unless_number (some r) a = refl

written_number : (m : Message) → answer_number (write_of m) ≡ refusal_number (refusal m)
unfolding write_of
written_number m = unless_number (refusal m) _

pub refused_exactly : RefusedExactly
refused_exactly m = written_number m ∙ ap refusal_number (refusal_is m)

zero_none : (o : Option Refusal) → refusal_number o ≡ 0 → o ≡ none
zero_none none e = refl
zero_none (some r) e = absurd (omega (arith, number_some r))

pub written_zero : WrittenZero
written_zero m = (λ n. zero_none (refusal m) (sym (written_number m) ∙ n), λ e. written_number m ∙ ap refusal_number e)
