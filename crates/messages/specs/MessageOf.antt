-- The message that an enum of the code is, beside the text and the entries lent with it. What a message does not use of these is as if not there.
use Rattle.std.specs.Prelude.{Option, Some, None, List, map, ℕ}
use Rattle.messages.specs.Types.{Head, DeviceID, SampleDumpMsg, ExtendedSampleDumpMsg, FileDumpMsg, GeneralMidi, SelectMap, FileReferenceMsg, UniversalNonRealTimeMsg}
use Rattle.messages.specs.declared.head.Head.TheVariants as head
use Rattle.messages.specs.declared.sample_dump.SampleDumpMsg.TheVariants as sample
use Rattle.messages.specs.declared.sample_dump.ExtendedSampleDumpMsg.TheVariants as extended
use Rattle.messages.specs.declared.file_dump.FileDumpMsg.TheVariants as file
use Rattle.messages.specs.declared.general_midi.GeneralMidi.TheVariants.{GM1, Off, GM2}
use Rattle.messages.specs.declared.file_reference.SelectMap.TheVariants as select
use Rattle.messages.specs.declared.file_reference.FileReferenceMsg.TheVariants as reference
use Rattle.messages.specs.declared.system_exclusive.UniversalNonRealTimeMsg.TheVariants as msg
use Rattle.messages.specs.Entries.{tuning_of, change_of, map_of}
use Rattle.messages.specs.Maps.{AnySelect, of_bank, of_wav, map_list, map_offset, only_wav_map, wav_map_offset}
use Rattle.messages.specs.Layouts.{Fields}
use Rattle.messages.specs.Messages.{Message, make}

-- ---- sample dumps

abbrev pub head_sample : SampleDumpMsg → Head
head_sample (sample.Header n f p l s e t) = head.SampleDumpHeader
head_sample (sample.Packet c) = head.SampleDumpPacket
head_sample (sample.Request n) = head.SampleDumpRequest
head_sample (sample.LoopPointTransmission n i t s e) = head.LoopPointTransmission
head_sample (sample.LoopPointsRequest n i) = head.LoopPointsRequest

abbrev pub fields_sample : (m : SampleDumpMsg) → List ℕ → Fields (head_sample m)
fields_sample (sample.Header n f p l s e t) text = record { sample = n; format = f; period = p; length = l; loop_start = s; loop_end = e; loop_type = t }
fields_sample (sample.Packet c) text = record { count = c; samples = text }
fields_sample (sample.Request n) text = n
fields_sample (sample.LoopPointTransmission n i t s e) text = record { sample = n; loop_number = i; loop_type = t; start = s; end = e }
fields_sample (sample.LoopPointsRequest n i) text = record { sample = n; loop_number = i }

abbrev pub head_extended : ExtendedSampleDumpMsg → Head
head_extended (extended.SampleName n) = head.SampleName
head_extended (extended.SampleNameRequest n) = head.SampleNameRequest
head_extended (extended.Header n f w r l s e t c) = head.ExtendedHeader
head_extended (extended.LoopPointTransmission n i t s e) = head.ExtendedLoopPointTransmission
head_extended (extended.LoopPointsRequest n i) = head.ExtendedLoopPointsRequest

abbrev pub fields_extended : (m : ExtendedSampleDumpMsg) → List ℕ → Fields (head_extended m)
fields_extended (extended.SampleName n) text = record { sample = n; name = text }
fields_extended (extended.SampleNameRequest n) text = n
fields_extended (extended.Header n f w r l s e t c) text =
    record { sample = n; format = f; rate_whole = w; rate_fraction = r; length = l; loop_start = s; loop_end = e; loop_type = t; channels = c }
fields_extended (extended.LoopPointTransmission n i t s e) text = record { sample = n; loop_number = i; loop_type = t; start = s; end = e }
fields_extended (extended.LoopPointsRequest n i) text = record { sample = n; loop_number = i }

-- ---- file dumps

abbrev pub head_file : FileDumpMsg → Head
head_file (file.Header d t l) = head.FileDumpHeader
head_file (file.Packet c) = head.FileDumpPacket
head_file (file.Request d t) = head.FileDumpRequest

abbrev pub fields_file : (m : FileDumpMsg) → List ℕ → Fields (head_file m)
fields_file (file.Header d t l) text = record { sender = d; type = t; length = l; name = text }
fields_file (file.Packet c) text = record { count = c; file_data = text }
fields_file (file.Request d t) text = record { requester = d; type = t; name = text }

-- ---- tunings that have a bank or not

abbrev pub head_request : Option ℕ → Head
head_request None = head.TuningBulkDumpRequest
head_request (Some b) = head.BankTuningBulkDumpRequest

abbrev pub fields_request : (b : Option ℕ) → ℕ → Fields (head_request b)
fields_request None p = p
fields_request (Some b) p = record { bank = b; program = p }

abbrev pub head_keys : Option ℕ → Head
head_keys None = head.KeyBasedTuningDump
head_keys (Some b) = head.BankKeyBasedTuningDump

abbrev pub fields_keys : (b : Option ℕ) → ℕ → List ℕ → List ℕ → Fields (head_keys b)
fields_keys None p text entries = record { program = p; name = text; tunings = map tuning_of entries }
fields_keys (Some b) p text entries = record { bank = b; program = p; name = text; tunings = map tuning_of entries }

-- ---- General MIDI

abbrev pub head_midi : GeneralMidi → Head
head_midi GM1 = head.GeneralMidi1
head_midi Off = head.GeneralMidiOff
head_midi GM2 = head.GeneralMidi2

abbrev pub fields_midi : (g : GeneralMidi) → Fields (head_midi g)
fields_midi GM1 = tt
fields_midi Off = tt
fields_midi GM2 = tt

-- ---- file references

abbrev pub head_select : SelectMap → Head
head_select select.SoundFile = head.SelectSoundFile
head_select (select.WAV m) = head.SelectWAV
head_select (select.SoundFileBankOffset o d) = head.SelectSoundFile
head_select (select.WAVBankOffset m o d) = head.SelectWAV

abbrev pub fields_select : ℕ → (m : SelectMap) → List ℕ → Fields (head_select m)
fields_select c select.SoundFile entries = record { context = c; map = map_list (map map_of entries) }
fields_select c (select.WAV m) entries = record { context = c; map = only_wav_map m }
fields_select c (select.SoundFileBankOffset o d) entries = record { context = c; map = map_offset (record { bank_offset = o; drum = d }) }
fields_select c (select.WAVBankOffset m o d) entries = record { context = c; map = wav_map_offset m (record { bank_offset = o; drum = d }) }

abbrev pub any_select : SelectMap → List ℕ → AnySelect
any_select select.SoundFile entries = of_bank (map_list (map map_of entries))
any_select (select.WAV m) entries = of_wav (only_wav_map m)
any_select (select.SoundFileBankOffset o d) entries = of_bank (map_offset (record { bank_offset = o; drum = d }))
any_select (select.WAVBankOffset m o d) entries = of_wav (wav_map_offset m (record { bank_offset = o; drum = d }))

abbrev pub head_reference : FileReferenceMsg → Head
head_reference (reference.Open c t) = head.FileReferenceOpen
head_reference (reference.SelectContents c m) = head_select m
head_reference (reference.OpenSelectContents c t m) = head.FileReferenceOpenSelect
head_reference (reference.Close c) = head.FileReferenceClose

abbrev pub fields_reference : (m : FileReferenceMsg) → List ℕ → List ℕ → Fields (head_reference m)
fields_reference (reference.Open c t) text entries = record { context = c; type = t; url = text }
fields_reference (reference.SelectContents c m) text entries = fields_select c m entries
fields_reference (reference.OpenSelectContents c t m) text entries = record { context = c; type = t; url = text; map = any_select m entries }
fields_reference (reference.Close c) text entries = c

-- ---- all of them

abbrev pub head_of : UniversalNonRealTimeMsg → Head
head_of (msg.SampleDump m) = head_sample m
head_of (msg.ExtendedSampleDump m) = head_extended m
head_of msg.IdentityRequest = head.IdentityRequest
head_of (msg.IdentityReply r) = head.IdentityReply
head_of (msg.FileDump m) = head_file m
head_of (msg.TuningBulkDumpRequest b p) = head_request b
head_of (msg.KeyBasedTuningDump d) = head_keys d.tuning_bank_num
head_of (msg.ScaleTuningDump1Byte d) = head.ScaleTuningDump1Byte
head_of (msg.ScaleTuningDump2Byte d) = head.ScaleTuningDump2Byte
head_of (msg.TuningNoteChange c) = head.TuningNoteChange
head_of (msg.ScaleTuning1Byte s) = head.ScaleTuning1Byte
head_of (msg.ScaleTuning2Byte s) = head.ScaleTuning2Byte
head_of (msg.GeneralMidi g) = head_midi g
head_of (msg.FileReference m) = head_reference m
head_of msg.EOF = head.EOF
head_of msg.Wait = head.Wait
head_of msg.Cancel = head.Cancel
head_of (msg.NAK n) = head.NAK
head_of (msg.ACK n) = head.ACK

abbrev pub fields_of : (m : UniversalNonRealTimeMsg) → List ℕ → List ℕ → Fields (head_of m)
fields_of (msg.SampleDump m) text entries = fields_sample m text
fields_of (msg.ExtendedSampleDump m) text entries = fields_extended m text
fields_of msg.IdentityRequest text entries = tt
fields_of (msg.IdentityReply r) text entries = r
fields_of (msg.FileDump m) text entries = fields_file m text
fields_of (msg.TuningBulkDumpRequest b p) text entries = fields_request b p
fields_of (msg.KeyBasedTuningDump d) text entries = fields_keys d.tuning_bank_num d.tuning_program_num text entries
fields_of (msg.ScaleTuningDump1Byte d) text entries = record { bank = d.tuning_bank_num; program = d.tuning_program_num; name = text; scale = d.tuning }
fields_of (msg.ScaleTuningDump2Byte d) text entries = record { bank = d.tuning_bank_num; program = d.tuning_program_num; name = text; scale = d.tuning }
fields_of (msg.TuningNoteChange c) text entries = record { bank = c.tuning_bank_num; program = c.tuning_program_num; changes = map change_of entries }
fields_of (msg.ScaleTuning1Byte s) text entries = record { channels = s.channels.channels; scale = s.tuning }
fields_of (msg.ScaleTuning2Byte s) text entries = record { channels = s.channels.channels; scale = s.tuning }
fields_of (msg.GeneralMidi g) text entries = fields_midi g
fields_of (msg.FileReference m) text entries = fields_reference m text entries
fields_of msg.EOF text entries = tt
fields_of msg.Wait text entries = tt
fields_of msg.Cancel text entries = tt
fields_of (msg.NAK n) text entries = n
fields_of (msg.ACK n) text entries = n

-- a device and an enum, beside lent text and entries
abbrev pub message_of : DeviceID → UniversalNonRealTimeMsg → List ℕ → List ℕ → Message
message_of d m text entries = make d (head_of m) (fields_of m text entries)
