-- A message says which device and which enum of the code it is of: no other beside any text and entries is that message.
-- Assumes nothing.
use mathlib.Core.Path.{◌≡◌, refl, sym, ap, ◌∙◌}
use mathlib.Core.List.{List}
use Prim.Native.Nat.{ℕ}
use Rattle.messages.specs.Types.{Head, DeviceID, SampleDumpMsg, ExtendedSampleDumpMsg, FileDumpMsg, GeneralMidi, SelectMap, FileReferenceMsg, UniversalNonRealTimeMsg}
use Rattle.messages.specs.declared.head.Head.TheVariants as head
use Rattle.messages.specs.declared.sample_dump.SampleDumpMsg.TheVariants as sample
use Rattle.messages.specs.declared.sample_dump.ExtendedSampleDumpMsg.TheVariants as extended
use Rattle.messages.specs.declared.file_dump.FileDumpMsg.TheVariants as file
use Rattle.std.specs.declared.option.Option.{Option}
use Rattle.std.specs.declared.option.Option.TheVariants.{None, Some}
use Rattle.messages.specs.declared.general_midi.GeneralMidi.TheVariants.{GM1, Off, GM2}
use Rattle.messages.specs.declared.file_reference.SelectMap.TheVariants as select
use Rattle.messages.specs.declared.file_reference.FileReferenceMsg.TheVariants as reference
use Rattle.messages.specs.declared.system_exclusive.UniversalNonRealTimeMsg.TheVariants as msg
use Rattle.messages.specs.Maps.{BankSelect, map_list, map_offset, WAVSelect, only_wav_map, wav_map_offset, AnySelect, of_bank, of_wav}
use Rattle.messages.specs.Layouts.{Fields}
use Rattle.messages.specs.Messages.{Message}
use Rattle.messages.specs.MessageOf.{head_sample, fields_sample, head_extended, fields_extended, head_file, fields_file, head_request, fields_request, head_keys, fields_keys, head_midi, fields_midi, head_select, fields_select, any_select, head_reference, fields_reference, head_of, fields_of, message_of}

-- ---- the enum of a message

abbrev bank_map : BankSelect → SelectMap
bank_map (map_list l) = select.SoundFile
bank_map (map_offset o) = select.SoundFileBankOffset o.bank_offset o.drum

abbrev wav_map : WAVSelect → SelectMap
wav_map (only_wav_map m) = select.WAV m
wav_map (wav_map_offset m o) = select.WAVBankOffset m o.bank_offset o.drum

abbrev any_map : AnySelect → SelectMap
any_map (of_bank x) = bank_map x
any_map (of_wav x) = wav_map x

abbrev enum_in : (h : Head) → Fields h → UniversalNonRealTimeMsg
enum_in head.SampleDumpHeader f = msg.SampleDump (sample.Header f.sample f.format f.period f.length f.loop_start f.loop_end f.loop_type)
enum_in head.SampleDumpPacket f = msg.SampleDump (sample.Packet f.count)
enum_in head.SampleDumpRequest f = msg.SampleDump (sample.Request f)
enum_in head.LoopPointTransmission f = msg.SampleDump (sample.LoopPointTransmission f.sample f.loop_number f.loop_type f.start f.end)
enum_in head.LoopPointsRequest f = msg.SampleDump (sample.LoopPointsRequest f.sample f.loop_number)
enum_in head.SampleName f = msg.ExtendedSampleDump (extended.SampleName f.sample)
enum_in head.SampleNameRequest f = msg.ExtendedSampleDump (extended.SampleNameRequest f)
enum_in head.ExtendedHeader f =
    msg.ExtendedSampleDump (extended.Header f.sample f.format f.rate_whole f.rate_fraction f.length f.loop_start f.loop_end f.loop_type f.channels)
enum_in head.ExtendedLoopPointTransmission f =
    msg.ExtendedSampleDump (extended.LoopPointTransmission f.sample f.loop_number f.loop_type f.start f.end)
enum_in head.ExtendedLoopPointsRequest f = msg.ExtendedSampleDump (extended.LoopPointsRequest f.sample f.loop_number)
enum_in head.IdentityRequest f = msg.IdentityRequest
enum_in head.IdentityReply f = msg.IdentityReply f
enum_in head.FileDumpHeader f = msg.FileDump (file.Header f.sender f.type f.length)
enum_in head.FileDumpPacket f = msg.FileDump (file.Packet f.count)
enum_in head.FileDumpRequest f = msg.FileDump (file.Request f.requester f.type)
enum_in head.TuningBulkDumpRequest f = msg.TuningBulkDumpRequest None f
enum_in head.BankTuningBulkDumpRequest f = msg.TuningBulkDumpRequest (Some f.bank) f.program
enum_in head.KeyBasedTuningDump f = msg.KeyBasedTuningDump (record { tuning_bank_num = None; tuning_program_num = f.program })
enum_in head.BankKeyBasedTuningDump f = msg.KeyBasedTuningDump (record { tuning_bank_num = Some f.bank; tuning_program_num = f.program })
enum_in head.ScaleTuningDump1Byte f = msg.ScaleTuningDump1Byte (record { tuning_bank_num = f.bank; tuning_program_num = f.program; tuning = f.scale })
enum_in head.ScaleTuningDump2Byte f = msg.ScaleTuningDump2Byte (record { tuning_bank_num = f.bank; tuning_program_num = f.program; tuning = f.scale })
enum_in head.TuningNoteChange f = msg.TuningNoteChange (record { tuning_bank_num = f.bank; tuning_program_num = f.program })
enum_in head.ScaleTuning1Byte f = msg.ScaleTuning1Byte (record { channels = record { channels = f.channels }; tuning = f.scale })
enum_in head.ScaleTuning2Byte f = msg.ScaleTuning2Byte (record { channels = record { channels = f.channels }; tuning = f.scale })
enum_in head.GeneralMidi1 f = msg.GeneralMidi GM1
enum_in head.GeneralMidiOff f = msg.GeneralMidi Off
enum_in head.GeneralMidi2 f = msg.GeneralMidi GM2
enum_in head.FileReferenceOpen f = msg.FileReference (reference.Open f.context f.type)
enum_in head.SelectSoundFile f = msg.FileReference (reference.SelectContents f.context (bank_map f.map))
enum_in head.SelectWAV f = msg.FileReference (reference.SelectContents f.context (wav_map f.map))
enum_in head.FileReferenceOpenSelect f = msg.FileReference (reference.OpenSelectContents f.context f.type (any_map f.map))
enum_in head.FileReferenceClose f = msg.FileReference (reference.Close f)
enum_in head.EOF f = msg.EOF
enum_in head.Wait f = msg.Wait
enum_in head.Cancel f = msg.Cancel
enum_in head.NAK f = msg.NAK f
enum_in head.ACK f = msg.ACK f

abbrev enum : Message → UniversalNonRealTimeMsg
enum m = enum_in m.head m.fields

-- ---- it is the one that the message was made of

sample_back : (m : SampleDumpMsg) (text : List ℕ) → enum_in (head_sample m) (fields_sample m text) ≡ msg.SampleDump m
sample_back (sample.Header n f p l s e t) text = refl
sample_back (sample.Packet c) text = refl
sample_back (sample.Request n) text = refl
sample_back (sample.LoopPointTransmission n i t s e) text = refl
sample_back (sample.LoopPointsRequest n i) text = refl

extended_back : (m : ExtendedSampleDumpMsg) (text : List ℕ) → enum_in (head_extended m) (fields_extended m text) ≡ msg.ExtendedSampleDump m
extended_back (extended.SampleName n) text = refl
extended_back (extended.SampleNameRequest n) text = refl
extended_back (extended.Header n f w r l s e t c) text = refl
extended_back (extended.LoopPointTransmission n i t s e) text = refl
extended_back (extended.LoopPointsRequest n i) text = refl

file_back : (m : FileDumpMsg) (text : List ℕ) → enum_in (head_file m) (fields_file m text) ≡ msg.FileDump m
file_back (file.Header d t l) text = refl
file_back (file.Packet c) text = refl
file_back (file.Request d t) text = refl

request_back : (b : Option ℕ) (p : ℕ) → enum_in (head_request b) (fields_request b p) ≡ msg.TuningBulkDumpRequest b p
request_back None p = refl
request_back (Some b) p = refl

keys_back : (b : Option ℕ) (p : ℕ) (text entries : List ℕ)
    → enum_in (head_keys b) (fields_keys b p text entries) ≡ msg.KeyBasedTuningDump (record { tuning_bank_num = b; tuning_program_num = p })
keys_back None p text entries = refl
keys_back (Some b) p text entries = refl

midi_back : (g : GeneralMidi) → enum_in (head_midi g) (fields_midi g) ≡ msg.GeneralMidi g
midi_back GM1 = refl
midi_back Off = refl
midi_back GM2 = refl

select_back : (c : ℕ) (m : SelectMap) (entries : List ℕ) → enum_in (head_select m) (fields_select c m entries) ≡ msg.FileReference (reference.SelectContents c m)
select_back c select.SoundFile entries = refl
select_back c (select.WAV m) entries = refl
select_back c (select.SoundFileBankOffset o d) entries = refl
select_back c (select.WAVBankOffset m o d) entries = refl

any_back : (m : SelectMap) (entries : List ℕ) → any_map (any_select m entries) ≡ m
any_back select.SoundFile entries = refl
any_back (select.WAV m) entries = refl
any_back (select.SoundFileBankOffset o d) entries = refl
any_back (select.WAVBankOffset m o d) entries = refl

reference_back : (m : FileReferenceMsg) (text entries : List ℕ) → enum_in (head_reference m) (fields_reference m text entries) ≡ msg.FileReference m
reference_back (reference.Open c t) text entries = refl
reference_back (reference.SelectContents c m) text entries = select_back c m entries
reference_back (reference.OpenSelectContents c t m) text entries =
    ap (λ (x : SelectMap). msg.FileReference (reference.OpenSelectContents c t x)) (any_back m entries)
reference_back (reference.Close c) text entries = refl

enum_back : (m : UniversalNonRealTimeMsg) (text entries : List ℕ) → enum_in (head_of m) (fields_of m text entries) ≡ m
enum_back (msg.SampleDump m) text entries = sample_back m text
enum_back (msg.ExtendedSampleDump m) text entries = extended_back m text
enum_back msg.IdentityRequest text entries = refl
enum_back (msg.IdentityReply r) text entries = refl
enum_back (msg.FileDump m) text entries = file_back m text
enum_back (msg.TuningBulkDumpRequest b p) text entries = request_back b p
enum_back (msg.KeyBasedTuningDump k) text entries = keys_back k.tuning_bank_num k.tuning_program_num text entries
enum_back (msg.ScaleTuningDump1Byte s) text entries = refl
enum_back (msg.ScaleTuningDump2Byte s) text entries = refl
enum_back (msg.TuningNoteChange c) text entries = refl
enum_back (msg.ScaleTuning1Byte s) text entries = refl
enum_back (msg.ScaleTuning2Byte s) text entries = refl
enum_back (msg.GeneralMidi g) text entries = midi_back g
enum_back (msg.FileReference m) text entries = reference_back m text entries
enum_back msg.EOF text entries = refl
enum_back msg.Wait text entries = refl
enum_back msg.Cancel text entries = refl
enum_back (msg.NAK n) text entries = refl
enum_back (msg.ACK n) text entries = refl

pub enum_only : (d e : DeviceID) (m n : UniversalNonRealTimeMsg) (t u a b : List ℕ) → message_of d m t a ≡ message_of e n u b → (d ≡ e) × (m ≡ n)
enum_only d e m n t u a b p = (ap (λ (x : Message). x.device) p, sym (enum_back m t a) ∙ ap enum p ∙ enum_back n u b)
