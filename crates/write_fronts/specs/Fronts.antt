-- The front of each message: from 7E up to the first part of no fixed number of fields, as fields of so many groups each.
use Rattle.std.specs.Prelude.{Option, Some, None, List, [], ◌∷◌, ◌++◌, ℕ, ◌+◌, ◌*◌, ◌/◌, ◌%◌, min, max}
use Rattle.util.specs.Groups.{groups, held}
use Rattle.messages.specs.declared.system_exclusive.ManufacturerID.{ManufacturerID}
use Rattle.messages.specs.declared.sample_dump.SampleDumpMsg.{SampleDumpMsg}
use Rattle.messages.specs.declared.sample_dump.ExtendedSampleDumpMsg.{ExtendedSampleDumpMsg}
use Rattle.messages.specs.declared.file_dump.FileDumpMsg.{FileDumpMsg}
use Rattle.messages.specs.declared.general_midi.GeneralMidi.{GeneralMidi}
use Rattle.messages.specs.declared.file_reference.SelectMap.{SelectMap}
use Rattle.messages.specs.declared.file_reference.FileReferenceMsg.{FileReferenceMsg}
use Rattle.messages.specs.declared.system_exclusive.UniversalNonRealTimeMsg.{UniversalNonRealTimeMsg}
use Rattle.messages.specs.declared.system_exclusive.IdentityReply.{IdentityReply}
use Rattle.messages.specs.declared.system_exclusive.ManufacturerID.TheVariants.{OneByte, Extended}
use Rattle.messages.specs.declared.sample_dump.SampleDumpMsg.TheVariants as sample
use Rattle.messages.specs.declared.sample_dump.ExtendedSampleDumpMsg.TheVariants as extended
use Rattle.messages.specs.declared.file_dump.FileDumpMsg.TheVariants as file
use Rattle.messages.specs.declared.general_midi.GeneralMidi.TheVariants.{GM1, Off, GM2}
use Rattle.messages.specs.declared.file_reference.SelectMap.TheVariants as select
use Rattle.messages.specs.declared.file_reference.FileReferenceMsg.TheVariants as reference
use Rattle.messages.specs.declared.system_exclusive.UniversalNonRealTimeMsg.TheVariants as msg
use Rattle.messages.specs.Fields.{device_byte, bank_number, loop_value, Four, type_chars}
use Rattle.messages.specs.Structures.{loop_byte, extended_loop_byte}
use Rattle.messages.specs.Maps.{reference_letters}

-- fields one after another: the number of groups, and the value held to them
abbrev pub spell : List (ℕ × ℕ) → List ℕ
spell [] = []
spell (x ∷ l) = groups x.0 (held x.0 x.1) ++ spell l

-- a value held to lo..hi
abbrev pub clamp : ℕ → ℕ → ℕ → ℕ
clamp lo hi v = max lo (min v hi)

-- 7E, device, head
abbrev pub start_1 : ℕ → ℕ → List (ℕ × ℕ) → List ℕ
start_1 d a l = spell ((1, 0x7E) ∷ (1, d) ∷ (1, a) ∷ l)

abbrev pub start_2 : ℕ → ℕ → ℕ → List (ℕ × ℕ) → List ℕ
start_2 d a b l = spell ((1, 0x7E) ∷ (1, d) ∷ (1, a) ∷ (1, b) ∷ l)

-- ---- by the messages; d is the device's byte, x the length of the text, y the number of entries

abbrev pub front_sample : ℕ → SampleDumpMsg → List ℕ
front_sample d (sample.Header n f p l s e t) = start_1 d 0x01 ((2, n) ∷ (1, clamp 8 28 f) ∷ (3, p) ∷ (3, l) ∷ (3, s) ∷ (3, e) ∷ (1, loop_byte t) ∷ [])
front_sample d (sample.Packet c) = start_1 d 0x02 ((1, c) ∷ [])
front_sample d (sample.Request n) = start_1 d 0x03 ((2, n) ∷ [])
front_sample d (sample.LoopPointTransmission n i t s e) = start_2 d 0x05 0x01 ((2, n) ∷ (2, loop_value i) ∷ (1, loop_byte t) ∷ (3, s) ∷ (3, e) ∷ [])
front_sample d (sample.LoopPointsRequest n i) = start_2 d 0x05 0x02 ((2, n) ∷ (2, loop_value i) ∷ [])

abbrev pub front_extended : ℕ → ExtendedSampleDumpMsg → List ℕ
front_extended d (extended.SampleName n) = start_2 d 0x05 0x03 ((2, n) ∷ (1, 0) ∷ [])
front_extended d (extended.SampleNameRequest n) = start_2 d 0x05 0x04 ((2, n) ∷ [])
front_extended d (extended.Header n f w r l s e t c) =
    start_2 d 0x05 0x05 ((2, n) ∷ (1, clamp 8 28 f) ∷ (4, w) ∷ (4, r) ∷ (5, l) ∷ (5, s) ∷ (5, e) ∷ (1, extended_loop_byte t) ∷ (1, c) ∷ [])
front_extended d (extended.LoopPointTransmission n i t s e) =
    start_2 d 0x05 0x06 ((2, n) ∷ (2, loop_value i) ∷ (1, extended_loop_byte t) ∷ (5, s) ∷ (5, e) ∷ [])
front_extended d (extended.LoopPointsRequest n i) = start_2 d 0x05 0x07 ((2, n) ∷ (2, loop_value i) ∷ [])

abbrev pub front_maker : ℕ → ManufacturerID → List (ℕ × ℕ) → List ℕ
front_maker d (OneByte b) l = start_2 d 0x06 0x02 ((1, clamp 1 124 b) ∷ l)
front_maker d (Extended a b) l = start_2 d 0x06 0x02 ((1, 0) ∷ (1, a) ∷ (1, b) ∷ l)

abbrev pub front_reply : ℕ → IdentityReply → List ℕ
front_reply d r =
    front_maker d r.id
    ((2, r.family) ∷ (2, r.family_member) ∷ (1, r.software_revision.0) ∷ (1, r.software_revision.1) ∷ (1, r.software_revision.2) ∷ (1, r.software_revision.3) ∷ [])

abbrev pub letters : Four → List (ℕ × ℕ) → List (ℕ × ℕ)
letters x l = (1, x.0) ∷ (1, x.1.0) ∷ (1, x.1.1.0) ∷ (1, x.1.1.1) ∷ l

abbrev pub front_file : ℕ → FileDumpMsg → List ℕ
front_file d (file.Header s t l) = start_2 d 0x07 0x01 ((1, device_byte s) ∷ letters (type_chars t) ((4, l) ∷ []))
front_file d (file.Packet c) = start_2 d 0x07 0x02 ((1, c) ∷ [])
front_file d (file.Request r t) = start_2 d 0x07 0x03 ((1, device_byte r) ∷ letters (type_chars t) [])

-- a program; with a bank another head, and the bank before it
abbrev pub front_banked : ℕ → ℕ → ℕ → Option ℕ → ℕ → List ℕ
front_banked d without with None p = start_2 d 0x08 without ((1, p) ∷ [])
front_banked d without with (Some b) p = start_2 d 0x08 with ((1, b) ∷ (1, p) ∷ [])

abbrev pub front_request : ℕ → Option ℕ → ℕ → List ℕ
front_request d b p = front_banked d 0x00 0x03 b p

abbrev pub front_keys : ℕ → Option ℕ → ℕ → List ℕ
front_keys d b p = front_banked d 0x01 0x04 b p

-- the three channel bytes of a set
abbrev pub channel_fields : ℕ → List (ℕ × ℕ)
channel_fields s = (1, s / 16384) ∷ (1, s % 16384 / 128) ∷ (1, s % 128) ∷ []

abbrev pub front_midi : ℕ → GeneralMidi → List ℕ
front_midi d GM1 = start_2 d 0x09 0x01 []
front_midi d Off = start_2 d 0x09 0x02 []
front_midi d GM2 = start_2 d 0x09 0x03 []

-- a map's length as it is counted, for y entries
abbrev pub map_length : SelectMap → ℕ → ℕ
map_length select.SoundFile y = 1 + 8 * min y 127
map_length (select.WAV m) y = 9
map_length (select.SoundFileBankOffset o d) y = 7
map_length (select.WAVBankOffset m o d) y = 15

abbrev pub front_reference : ℕ → FileReferenceMsg → ℕ → ℕ → List ℕ
front_reference d (reference.Open c t) x y = start_2 d 0x0B 0x01 ((2, c) ∷ (2, 5 + min x 260) ∷ letters (reference_letters t) [])
front_reference d (reference.SelectContents c m) x y = start_2 d 0x0B 0x02 ((2, c) ∷ (2, map_length m y) ∷ [])
front_reference d (reference.OpenSelectContents c t m) x y =
    start_2 d 0x0B 0x03 ((2, c) ∷ (2, 5 + min x 260 + map_length m y) ∷ letters (reference_letters t) [])
front_reference d (reference.Close c) x y = start_2 d 0x0B 0x04 ((2, c) ∷ (1, 0) ∷ (1, 0) ∷ [])

abbrev pub front_of : ℕ → UniversalNonRealTimeMsg → ℕ → ℕ → List ℕ
front_of d (msg.SampleDump m) x y = front_sample d m
front_of d (msg.ExtendedSampleDump m) x y = front_extended d m
front_of d msg.IdentityRequest x y = start_2 d 0x06 0x01 []
front_of d (msg.IdentityReply r) x y = front_reply d r
front_of d (msg.FileDump m) x y = front_file d m
front_of d (msg.TuningBulkDumpRequest b p) x y = front_request d b p
front_of d (msg.KeyBasedTuningDump k) x y = front_keys d k.tuning_bank_num k.tuning_program_num
front_of d (msg.ScaleTuningDump1Byte s) x y = start_2 d 0x08 0x05 ((1, s.tuning_bank_num) ∷ (1, s.tuning_program_num) ∷ [])
front_of d (msg.ScaleTuningDump2Byte s) x y = start_2 d 0x08 0x06 ((1, s.tuning_bank_num) ∷ (1, s.tuning_program_num) ∷ [])
front_of d (msg.TuningNoteChange c) x y = start_2 d 0x08 0x07 ((1, bank_number c.tuning_bank_num) ∷ (1, c.tuning_program_num) ∷ [])
front_of d (msg.ScaleTuning1Byte s) x y = start_2 d 0x08 0x08 (channel_fields s.channels.channels)
front_of d (msg.ScaleTuning2Byte s) x y = start_2 d 0x08 0x09 (channel_fields s.channels.channels)
front_of d (msg.GeneralMidi g) x y = front_midi d g
front_of d (msg.FileReference m) x y = front_reference d m x y
front_of d msg.EOF x y = start_1 d 0x7B ((1, 0) ∷ [])
front_of d msg.Wait x y = start_1 d 0x7C ((1, 0) ∷ [])
front_of d msg.Cancel x y = start_1 d 0x7D ((1, 0) ∷ [])
front_of d (msg.NAK n) x y = start_1 d 0x7E ((1, n) ∷ [])
front_of d (msg.ACK n) x y = start_1 d 0x7F ((1, n) ∷ [])
