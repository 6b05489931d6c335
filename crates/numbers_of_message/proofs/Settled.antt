-- The fields of a settled message are representable, so its numbers say it. Assumes nothing.
use mathlib.Core.Path.{◌≡◌, refl, sym, ◌∙◌, subst}
use mathlib.Core.Bool.{Bool, true, false}
use mathlib.Core.List.{List, [], ◌∷◌}
use Prim.Native.Nat.{ℕ, zero, suc, ◌+◌, ◌-◌, ◌≤◌, ◌<◌, ◌^◌}
use native.Mathlib.Omega.{arith}
use lib.Dec.{leb}
use lib.IntN.{ℤ, pos, negsuc}
use Rattle.util.specs.Signed.{biased, unbiased, less}
use Rattle.messages.specs.declared.system_exclusive.DeviceID.TheVariants.{Device, AllCall}
use Rattle.messages.specs.declared.sample_dump.LoopNumber.TheVariants.{Loop, RequestAll, DeleteAll}
use Rattle.messages.specs.declared.file_dump.FileType.TheVariants.{MIDI, MIEX, ESEQ, TEXT, BIN, MAC, Custom}
use Rattle.messages.specs.declared.sample_dump.SampleDumpMsg.TheVariants as sample
use Rattle.messages.specs.declared.sample_dump.ExtendedSampleDumpMsg.TheVariants as extended
use Rattle.messages.specs.declared.file_dump.FileDumpMsg.TheVariants as file
use Rattle.std.specs.Prelude as std
use Rattle.std.specs.Prelude.{Some, None}
use lib.ListN.{length, get_or}
use Rattle.messages.specs.declared.general_midi.GeneralMidi.TheVariants.{GM1, Off, GM2}
use Rattle.messages.specs.declared.file_reference.FileReferenceType.TheVariants as kind
use Rattle.messages.specs.declared.file_reference.SelectMap.TheVariants as select
use Rattle.messages.specs.declared.file_reference.FileReferenceMsg.TheVariants as reference
use Rattle.messages.specs.declared.system_exclusive.ManufacturerID.TheVariants.{OneByte, Extended}
use Rattle.messages.specs.declared.system_exclusive.UniversalNonRealTimeMsg.TheVariants as msg
use Rattle.messages.specs.format.Texts.{lookup}
use Rattle.messages.specs.format.Core.{Part}
use Rattle.messages.specs.format.Lists.{all_settled}
use Rattle.util.specs.Pick.{pick}
use Rattle.messages.specs.Fields.{Four, s7, s14, device, loop_requested, loop_transmitted, file_type, bank_or_none, type_chars, type_of, four, same_four, custom_type, named_types}
use Rattle.messages.specs.Structures.{scale_1, scale_2, identity_reply, AfterMaker, reply, revision}
use Rattle.messages.specs.Maps.{wav_map, offset, select_for}
use Rattle.messages.specs.Layouts.{form}
use Rattle.messages.specs.MessageOf.{head_of, fields_of, message_of, head_sample, fields_sample, head_extended, fields_extended, head_file, fields_file, head_request, fields_request, head_keys, fields_keys, head_select, fields_select, any_select, head_reference, fields_reference}
use Rattle.messages.proofs.Exact.{settled_parts}
use Rattle.numbers_to_message.specs.declared.fit.NumberType.TheVariants as type
use Rattle.numbers_to_message.specs.Types.{DeviceID, LoopNumber, FileType, FileReferenceType, GeneralMidi, SampleDumpMsg, ExtendedSampleDumpMsg, ManufacturerID, FileDumpMsg, WAVMap, SelectMap, FileReferenceMsg, UniversalNonRealTimeMsg}
use Rattle.numbers_to_message.specs.Values.{file_number_of}
use Rattle.numbers_to_message.proofs.Files.{type_named, unspelled}
use Rattle.numbers_of_message.specs.Numbers.{of_sample, of_extended, of_identity, of_file, banked, of_midi, of_select, of_reference, coded}
use Rattle.numbers_of_message.specs.Numbers as numbers
use Rattle.numbers_of_message.specs.Representable.{Within, Representable, AllRepresentable, ScaleOfTwelve}
use Rattle.numbers_of_message.specs.Promises.{SettledRepresentable}

-- ---- the kinds of field

device_representable : (d : DeviceID) → device.settled d → Representable type.Device d
device_representable (Device n) h = omega arith
device_representable AllCall h = tt

requested_representable : (i : LoopNumber) → loop_requested.settled i → Representable type.RequestedLoop i
requested_representable (Loop n) h = omega arith
requested_representable RequestAll h = tt
requested_representable DeleteAll h = let e : RequestAll ≡ DeleteAll = h.1 in let z : ◌≡◌ {A = ℕ} 0 1 = cc in omega arith

transmitted_representable : (i : LoopNumber) → loop_transmitted.settled i → Representable type.TransmittedLoop i
transmitted_representable (Loop n) h = omega arith
transmitted_representable RequestAll h = let e : DeleteAll ≡ RequestAll = h.1 in let z : ◌≡◌ {A = ℕ} 0 1 = cc in omega arith
transmitted_representable DeleteAll h = tt

bank_representable : (b : std.Option ℕ) → bank_or_none.settled b → Representable type.BankOrNone b
bank_representable None h = tt
bank_representable (Some n) h = omega arith

neg_below : (o v : ℕ) (t : Bool) (m : ℕ) → 1 ≤ o → less o v t ≡ negsuc m → m < o
neg_below o v true m h e = let z : ◌≡◌ {A = ℕ} 0 1 = cc in absurd (omega arith)
neg_below o v false m h e = let q : o - suc v ≡ m = cc in omega arith

-- a value whose biased value is below t, and that it says again
within : (o n t : ℕ) (z : ℤ) → 1 ≤ o → o ≤ n → t ≤ o + n → biased o z < t → unbiased o (biased o z) ≡ z → Within n z
within o n t (pos m) p q r h e = omega arith
within o n t (negsuc m) p q r h e = omega (arith, neg_below o (o - suc m) (leb o (o - suc m)) m p e)

representable_7 : (z : ℤ) → s7.settled z → Representable type.I8 z
representable_7 z h = within 64 (2 ^ 7) (128 ^ 1) z (omega arith) (omega arith) (omega arith) h.0 h.1

representable_14 : (z : ℤ) → s14.settled z → Representable type.I16 z
representable_14 z h = within 8192 (2 ^ 15) (128 ^ 2) z (omega arith) (omega arith) (omega arith) h.0 h.1

-- ---- a file type: one that spells no named type has another number than each of these

-- a custom type of the table has four letters
abbrev FourLetters : FileType → Type 0
FourLetters MIDI = Unit {0}
FourLetters MIEX = Unit {0}
FourLetters ESEQ = Unit {0}
FourLetters TEXT = Unit {0}
FourLetters BIN = Unit {0}
FourLetters MAC = Unit {0}
FourLetters (Custom l) = length l ≡ 4

pick_four : (b : Bool) (t u : FileType) → FourLetters t → FourLetters u → FourLetters (pick b t u)
pick_four true t u p q = p
pick_four false t u p q = q

abbrev Fours : List FileType → Type 0
Fours [] = Unit {0}
Fours (t ∷ ts) = FourLetters t × Fours ts

looked_four : (x : Four) (ts : List FileType) → Fours ts → FourLetters (lookup same_four type_chars custom_type ts x)
looked_four x [] h = refl
looked_four x (t ∷ ts) h = pick_four (same_four (type_chars t) x) t (lookup same_four type_chars custom_type ts x) h.0 (looked_four x ts h.1)

type_four : (x : Four) → FourLetters (type_of x)
type_four x = looked_four x named_types (tt, (tt, (tt, (tt, (tt, (tt, tt))))))

custom_representable : (l : List ℕ) → length l ≡ 4 → file_type.settled (Custom l) → Representable type.FileType (Custom l)
custom_representable [] e h = absurd (omega arith)
custom_representable (a ∷ []) e h = absurd (omega arith)
custom_representable (a ∷ b ∷ []) e h = absurd (omega arith)
custom_representable (a ∷ b ∷ c ∷ []) e h = absurd (omega arith)
custom_representable (a ∷ b ∷ c ∷ d ∷ []) e h = (refl, omega arith, unspelled (file_number_of (Custom (a ∷ b ∷ c ∷ d ∷ []))) _ (sym (type_named (a, (b, (c, d))) (omega arith)) ∙ h.1))
custom_representable (a ∷ b ∷ c ∷ d ∷ f ∷ l) e h = absurd (omega arith)

file_representable : (t : FileType) → file_type.settled t → Representable type.FileType t
file_representable MIDI h = tt
file_representable MIEX h = tt
file_representable ESEQ h = tt
file_representable TEXT h = tt
file_representable BIN h = tt
file_representable MAC h = tt
file_representable (Custom l) h = custom_representable l (subst FourLetters h.1 (type_four (four l))) h

-- ---- messages

sample_representable : (m : SampleDumpMsg) (text : List ℕ) → (form (head_sample m)).settled (fields_sample m text) → AllRepresentable (of_sample m).1
sample_representable (sample.Header n f p l s e t) text h = (omega arith, (omega arith, (omega arith, (omega arith, (omega arith, (omega arith, (tt, tt)))))))
sample_representable (sample.Packet c) text h = (omega arith, tt)
sample_representable (sample.Request n) text h = (omega arith, tt)
sample_representable (sample.LoopPointTransmission n i t s e) text h = (omega arith, (transmitted_representable i h.0.1.0, (tt, (omega arith, (omega arith, tt)))))
sample_representable (sample.LoopPointsRequest n i) text h = (omega arith, (requested_representable i h.0.1, tt))

extended_representable : (m : ExtendedSampleDumpMsg) (text : List ℕ) → (form (head_extended m)).settled (fields_extended m text) → AllRepresentable (of_extended m).1
extended_representable (extended.SampleName n) text h = (omega arith, tt)
extended_representable (extended.SampleNameRequest n) text h = (omega arith, tt)
extended_representable (extended.Header n f w r l s e t c) text h = (omega arith, (omega arith, (omega arith, (omega arith, (tt, (tt, (tt, (tt, (omega arith, tt)))))))))
extended_representable (extended.LoopPointTransmission n i t s e) text h = (omega arith, (transmitted_representable i h.0.1.0, (tt, (tt, (tt, tt)))))
extended_representable (extended.LoopPointsRequest n i) text h = (omega arith, (requested_representable i h.0.1, tt))

reply_representable : (k : ManufacturerID) (x : AfterMaker) → identity_reply.settled (reply k x) → AllRepresentable (of_identity (reply k x)).1
reply_representable (OneByte m) x h = (tt, (omega arith, (tt, (omega arith, (omega arith, (omega arith, (omega arith, (omega arith, (omega arith, tt)))))))))
reply_representable (Extended m n) x h = (tt, (omega arith, (omega arith, (omega arith, (omega arith, (omega arith, (omega arith, (omega arith, (omega arith, tt)))))))))

file_dump_representable : (m : FileDumpMsg) (text : List ℕ) → (form (head_file m)).settled (fields_file m text) → AllRepresentable (of_file m).1
file_dump_representable (file.Header s t l) text h = (device_representable s h.0, (file_representable t h.1.0, (omega arith, tt)))
file_dump_representable (file.Packet c) text h = (omega arith, tt)
file_dump_representable (file.Request r t) text h = (device_representable r h.0, (file_representable t h.1.0, tt))

request_representable : (b : std.Option ℕ) (p : ℕ) → (form (head_request b)).settled (fields_request b p) → AllRepresentable (banked 0x0800 0x0803 b p).1
request_representable None p h = (omega arith, tt)
request_representable (Some b) p h = (omega arith, (omega arith, tt))

keys_representable : (b : std.Option ℕ) (p : ℕ) (text entries : List ℕ) → (form (head_keys b)).settled (fields_keys b p text entries) → AllRepresentable (banked 0x0801 0x0804 b p).1
keys_representable None p text entries h = (omega arith, tt)
keys_representable (Some b) p text entries h = (omega arith, (omega arith, tt))

-- each of a settled list is settled
all_at : (p : Part ℤ) (l : List ℤ) (k : ℕ) → all_settled p l → k < length l → p.settled (get_or l k (pos 0))
all_at p [] k h g = absurd (omega arith)
all_at p (x ∷ l) zero h g = h.0
all_at p (x ∷ l) (suc k) h g = all_at p l k h.1 (omega arith)

scale_1_representable : (s : List ℤ) → scale_1.settled s → AllRepresentable (numbers.scale_1 s)
scale_1_representable s h =
    let r = λ (k : ℕ) (l : k < 12). representable_7 (get_or s k (pos 0)) (all_at s7 s k h.1 (omega (arith, h.0))) in
    (r 0 (omega arith), (r 1 (omega arith), (r 2 (omega arith), (r 3 (omega arith), (r 4 (omega arith), (r 5 (omega arith), (r 6 (omega arith), (r 7 (omega arith), (r 8 (omega arith), (r 9 (omega arith), (r 10 (omega arith), (r 11 (omega arith), tt))))))))))))

scale_2_representable : (s : List ℤ) → scale_2.settled s → AllRepresentable (numbers.scale_2 s)
scale_2_representable s h =
    let r = λ (k : ℕ) (l : k < 12). representable_14 (get_or s k (pos 0)) (all_at s14 s k h.1 (omega (arith, h.0))) in
    (r 0 (omega arith), (r 1 (omega arith), (r 2 (omega arith), (r 3 (omega arith), (r 4 (omega arith), (r 5 (omega arith), (r 6 (omega arith), (r 7 (omega arith), (r 8 (omega arith), (r 9 (omega arith), (r 10 (omega arith), (r 11 (omega arith), tt))))))))))))

wav_representable : (m : WAVMap) → wav_map.settled m → AllRepresentable (numbers.wav m)
wav_representable m h = (omega arith, (omega arith, (omega arith, (omega arith, (omega arith, (representable_14 m.fine h.0.1.1.1.1.1.0, (omega arith, tt)))))))

-- ---- maps

no_map_representable : AllRepresentable (of_select select.SoundFile)
no_map_representable = (tt, (tt, (tt, (tt, (tt, (tt, (tt, (tt, (tt, (tt, tt))))))))))

offset_representable : (o : ℕ) (d : Bool) → offset.settled (record { bank_offset = o; drum = d }) → AllRepresentable (of_select (select.SoundFileBankOffset o d))
offset_representable o d h = (tt, (omega arith, (tt, (tt, (tt, (tt, (tt, (tt, (tt, (tt, tt))))))))))

both_representable : (m : WAVMap) (o : ℕ) (d : Bool) → wav_map.settled m → offset.settled (record { bank_offset = o; drum = d }) → AllRepresentable (of_select (select.WAVBankOffset m o d))
both_representable m o d h g = (tt, (omega arith, (tt, wav_representable m h)))

select_representable : (c : ℕ) (m : SelectMap) (entries : List ℕ) → (form (head_select m)).settled (fields_select c m entries) → AllRepresentable ((type.U16, c) ∷ of_select m)
select_representable c select.SoundFile entries h = (omega arith, no_map_representable)
select_representable c (select.SoundFileBankOffset o d) entries h = (omega arith, offset_representable o d h.1)
select_representable c (select.WAV m) entries h = (omega arith, (tt, (tt, (tt, wav_representable m h.1))))
select_representable c (select.WAVBankOffset m o d) entries h = (omega arith, both_representable m o d h.1.0 h.1.1)

-- in an open with select the file type settles the kind
open_representable : (t : FileReferenceType) (m : SelectMap) (entries : List ℕ) → (select_for t).settled (any_select m entries) → AllRepresentable (of_select m)
open_representable kind.DLS select.SoundFile entries h = no_map_representable
open_representable kind.DLS (select.SoundFileBankOffset o d) entries h = offset_representable o d h
open_representable kind.DLS (select.WAV m) entries h = absurd h
open_representable kind.DLS (select.WAVBankOffset m o d) entries h = absurd h
open_representable kind.SF2 select.SoundFile entries h = no_map_representable
open_representable kind.SF2 (select.SoundFileBankOffset o d) entries h = offset_representable o d h
open_representable kind.SF2 (select.WAV m) entries h = absurd h
open_representable kind.SF2 (select.WAVBankOffset m o d) entries h = absurd h
open_representable kind.WAV select.SoundFile entries h = absurd h
open_representable kind.WAV (select.SoundFileBankOffset o d) entries h = absurd h
open_representable kind.WAV (select.WAV m) entries h = (tt, (tt, (tt, wav_representable m h)))
open_representable kind.WAV (select.WAVBankOffset m o d) entries h = both_representable m o d h.0 h.1

reference_representable : (m : FileReferenceMsg) (text entries : List ℕ) → (form (head_reference m)).settled (fields_reference m text entries) → AllRepresentable (of_reference m).1
reference_representable (reference.Open c t) text entries h = (omega arith, (tt, tt))
reference_representable (reference.SelectContents c m) text entries h = select_representable c m entries h
reference_representable (reference.OpenSelectContents c t m) text entries h = (omega arith, (tt, open_representable t m entries h.1.1))
reference_representable (reference.Close c) text entries h = (omega arith, tt)

midi_representable : (g : GeneralMidi) → AllRepresentable (of_midi g).1
midi_representable GM1 = tt
midi_representable Off = tt
midi_representable GM2 = tt

-- ---- all of them

fields_representable : (m : UniversalNonRealTimeMsg) (text entries : List ℕ) → (form (head_of m)).settled (fields_of m text entries) → AllRepresentable (coded m).1
fields_representable (msg.SampleDump m) text entries h = sample_representable m text h
fields_representable (msg.ExtendedSampleDump m) text entries h = extended_representable m text h
fields_representable msg.IdentityRequest text entries h = tt
fields_representable (msg.IdentityReply r) text entries h = reply_representable r.id (r.family, (r.family_member, revision r.software_revision)) h
fields_representable (msg.FileDump m) text entries h = file_dump_representable m text h
fields_representable (msg.TuningBulkDumpRequest b p) text entries h = request_representable b p h
fields_representable (msg.KeyBasedTuningDump k) text entries h = keys_representable k.tuning_bank_num k.tuning_program_num text entries h
fields_representable (msg.ScaleTuningDump1Byte s) text entries h = (omega arith, (omega arith, scale_1_representable s.tuning h.0.1.1.1))
fields_representable (msg.ScaleTuningDump2Byte s) text entries h = (omega arith, (omega arith, scale_2_representable s.tuning h.0.1.1.1))
fields_representable (msg.TuningNoteChange c) text entries h = (bank_representable c.tuning_bank_num h.0.0, (omega arith, tt))
fields_representable (msg.ScaleTuning1Byte s) text entries h = (omega arith, scale_1_representable s.tuning h.0.1)
fields_representable (msg.ScaleTuning2Byte s) text entries h = (omega arith, scale_2_representable s.tuning h.0.1)
fields_representable (msg.GeneralMidi g) text entries h = midi_representable g
fields_representable (msg.FileReference m) text entries h = reference_representable m text entries h
fields_representable msg.EOF text entries h = tt
fields_representable msg.Wait text entries h = tt
fields_representable msg.Cancel text entries h = tt
fields_representable (msg.NAK n) text entries h = (omega arith, tt)
fields_representable (msg.ACK n) text entries h = (omega arith, tt)

-- the arrays of settled scales
twelve : (m : UniversalNonRealTimeMsg) (text entries : List ℕ) → (form (head_of m)).settled (fields_of m text entries) → ScaleOfTwelve m
twelve (msg.SampleDump m) text entries h = tt
twelve (msg.ExtendedSampleDump m) text entries h = tt
twelve msg.IdentityRequest text entries h = tt
twelve (msg.IdentityReply r) text entries h = tt
twelve (msg.FileDump m) text entries h = tt
twelve (msg.TuningBulkDumpRequest b p) text entries h = tt
twelve (msg.KeyBasedTuningDump k) text entries h = tt
twelve (msg.ScaleTuningDump1Byte s) text entries h = h.0.1.1.1.0
twelve (msg.ScaleTuningDump2Byte s) text entries h = h.0.1.1.1.0
twelve (msg.TuningNoteChange c) text entries h = tt
twelve (msg.ScaleTuning1Byte s) text entries h = h.0.1.0
twelve (msg.ScaleTuning2Byte s) text entries h = h.0.1.0
twelve (msg.GeneralMidi g) text entries h = tt
twelve (msg.FileReference m) text entries h = tt
twelve msg.EOF text entries h = tt
twelve msg.Wait text entries h = tt
twelve msg.Cancel text entries h = tt
twelve (msg.NAK n) text entries h = tt
twelve (msg.ACK n) text entries h = tt

pub settled_representable : SettledRepresentable
settled_representable d m text entries s =
    let p = settled_parts (message_of d m text entries) s in
    (device_representable d p.0, fields_representable m text entries p.1, twelve m text entries p.1)
