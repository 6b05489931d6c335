-- What follows the front of each message: text, packed data, entries, maps and scales, as the layouts write them; and how many bytes that is.
use Rattle.std.specs.Prelude.{Bool, List, [], ◌∷◌, ◌++◌, map, ℕ, ◌+◌, ◌*◌, ◌/◌, min}
use Rattle.util.specs.Packing.{pack}
use Rattle.messages.specs.declared.sample_dump.SampleDumpMsg.{SampleDumpMsg}
use Rattle.messages.specs.declared.sample_dump.ExtendedSampleDumpMsg.{ExtendedSampleDumpMsg}
use Rattle.messages.specs.declared.file_dump.FileDumpMsg.{FileDumpMsg}
use Rattle.messages.specs.declared.file_reference.SelectMap.{SelectMap}
use Rattle.messages.specs.declared.file_reference.FileReferenceMsg.{FileReferenceMsg}
use Rattle.messages.specs.declared.system_exclusive.UniversalNonRealTimeMsg.{UniversalNonRealTimeMsg}
use Rattle.messages.specs.declared.sample_dump.SampleDumpMsg.TheVariants as sample
use Rattle.messages.specs.declared.sample_dump.ExtendedSampleDumpMsg.TheVariants as extended
use Rattle.messages.specs.declared.file_dump.FileDumpMsg.TheVariants as file
use Rattle.messages.specs.declared.file_reference.SelectMap.TheVariants as select
use Rattle.messages.specs.declared.file_reference.FileReferenceMsg.TheVariants as reference
use Rattle.messages.specs.declared.system_exclusive.UniversalNonRealTimeMsg.TheVariants as msg
use Rattle.messages.specs.format.Core.{written}
use Rattle.messages.specs.format.Lists.{counted}
use Rattle.messages.specs.format.Packed.{count_byte}
use Rattle.messages.specs.Fields.{name_of_16, sample_name, url}
use Rattle.messages.specs.Structures.{samples, keys, note_changes, scale_1, scale_2}
use Rattle.messages.specs.Maps.{sound_file_map, wav_map, offset}
use Rattle.messages.specs.Entries.{tuning_of, change_of, map_of}

abbrev pub part_sample : SampleDumpMsg → List ℕ → List ℕ
part_sample (sample.Header n f p l s e t) text = []
part_sample (sample.Packet c) text = written samples text
part_sample (sample.Request n) text = []
part_sample (sample.LoopPointTransmission n i t s e) text = []
part_sample (sample.LoopPointsRequest n i) text = []

abbrev pub part_extended : ExtendedSampleDumpMsg → List ℕ → List ℕ
part_extended (extended.SampleName n) text = written sample_name text
part_extended (extended.SampleNameRequest n) text = []
part_extended (extended.Header n f w r l s e t c) text = []
part_extended (extended.LoopPointTransmission n i t s e) text = []
part_extended (extended.LoopPointsRequest n i) text = []

abbrev pub part_file : FileDumpMsg → List ℕ → List ℕ
part_file (file.Header s t l) text = text
part_file (file.Packet c) text = count_byte text ∷ pack 0 text
part_file (file.Request r t) text = text

-- "128 tunings"
abbrev pub part_keys : List ℕ → List ℕ
part_keys entries = written keys (map tuning_of entries)

-- "number of entries, each a key (u7) and a tuning"
abbrev pub part_changes : List ℕ → List ℕ
part_changes entries = written note_changes (map change_of entries)

-- a number, and the bank maps
abbrev pub part_maps : List ℕ → List ℕ
part_maps entries = written (counted sound_file_map) (map map_of entries)

abbrev pub part_offset : ℕ → Bool → List ℕ
part_offset o d = written offset (record { bank_offset = o; drum = d })

abbrev pub part_select : SelectMap → List ℕ → List ℕ
part_select select.SoundFile entries = part_maps entries
part_select (select.WAV m) entries = written wav_map m
part_select (select.SoundFileBankOffset o d) entries = part_offset o d
part_select (select.WAVBankOffset m o d) entries = written wav_map m ++ part_offset o d

abbrev pub part_reference : FileReferenceMsg → List ℕ → List ℕ → List ℕ
part_reference (reference.Open c t) text entries = written url text
part_reference (reference.SelectContents c m) text entries = part_select m entries
part_reference (reference.OpenSelectContents c t m) text entries = written url text ++ part_select m entries
part_reference (reference.Close c) text entries = []

abbrev pub part_of : UniversalNonRealTimeMsg → List ℕ → List ℕ → List ℕ
part_of (msg.SampleDump m) text entries = part_sample m text
part_of (msg.ExtendedSampleDump m) text entries = part_extended m text
part_of msg.IdentityRequest text entries = []
part_of (msg.IdentityReply r) text entries = []
part_of (msg.FileDump m) text entries = part_file m text
part_of (msg.TuningBulkDumpRequest b p) text entries = []
part_of (msg.KeyBasedTuningDump k) text entries = written name_of_16 text ++ part_keys entries
part_of (msg.ScaleTuningDump1Byte s) text entries = written name_of_16 text ++ written scale_1 s.tuning
part_of (msg.ScaleTuningDump2Byte s) text entries = written name_of_16 text ++ written scale_2 s.tuning
part_of (msg.TuningNoteChange c) text entries = part_changes entries
part_of (msg.ScaleTuning1Byte s) text entries = written scale_1 s.tuning
part_of (msg.ScaleTuning2Byte s) text entries = written scale_2 s.tuning
part_of (msg.GeneralMidi g) text entries = []
part_of (msg.FileReference m) text entries = part_reference m text entries
part_of msg.EOF text entries = []
part_of msg.Wait text entries = []
part_of msg.Cancel text entries = []
part_of (msg.NAK n) text entries = []
part_of (msg.ACK n) text entries = []

-- ---- how many bytes that is, for a text of x bytes and y entries

abbrev pub size_sample : SampleDumpMsg → ℕ
size_sample (sample.Header n f p l s e t) = 0
size_sample (sample.Packet c) = 120
size_sample (sample.Request n) = 0
size_sample (sample.LoopPointTransmission n i t s e) = 0
size_sample (sample.LoopPointsRequest n i) = 0

abbrev pub size_extended : ExtendedSampleDumpMsg → ℕ → ℕ
size_extended (extended.SampleName n) x = 1 + min x 127
size_extended (extended.SampleNameRequest n) x = 0
size_extended (extended.Header n f w r l s e t c) x = 0
size_extended (extended.LoopPointTransmission n i t s e) x = 0
size_extended (extended.LoopPointsRequest n i) x = 0

abbrev pub size_file : FileDumpMsg → ℕ → ℕ
size_file (file.Header s t l) x = x
size_file (file.Packet c) x = 1 + x + (x + 6) / 7
size_file (file.Request r t) x = x

abbrev pub size_select : SelectMap → ℕ → ℕ
size_select select.SoundFile y = 1 + 8 * min y 127
size_select (select.WAV m) y = 9
size_select (select.SoundFileBankOffset o d) y = 7
size_select (select.WAVBankOffset m o d) y = 16

abbrev pub size_reference : FileReferenceMsg → ℕ → ℕ → ℕ
size_reference (reference.Open c t) x y = min x 260 + 1
size_reference (reference.SelectContents c m) x y = size_select m y
size_reference (reference.OpenSelectContents c t m) x y = min x 260 + 1 + size_select m y
size_reference (reference.Close c) x y = 0

abbrev pub part_size : UniversalNonRealTimeMsg → ℕ → ℕ → ℕ
part_size (msg.SampleDump m) x y = size_sample m
part_size (msg.ExtendedSampleDump m) x y = size_extended m x
part_size msg.IdentityRequest x y = 0
part_size (msg.IdentityReply r) x y = 0
part_size (msg.FileDump m) x y = size_file m x
part_size (msg.TuningBulkDumpRequest b p) x y = 0
part_size (msg.KeyBasedTuningDump k) x y = 400
part_size (msg.ScaleTuningDump1Byte s) x y = 28
part_size (msg.ScaleTuningDump2Byte s) x y = 40
part_size (msg.TuningNoteChange c) x y = 1 + 4 * y
part_size (msg.ScaleTuning1Byte s) x y = 12
part_size (msg.ScaleTuning2Byte s) x y = 24
part_size (msg.GeneralMidi g) x y = 0
part_size (msg.FileReference m) x y = size_reference m x y
part_size msg.EOF x y = 0
part_size msg.Wait x y = 0
part_size msg.Cancel x y = 0
part_size (msg.NAK n) x y = 0
part_size (msg.ACK n) x y = 0
