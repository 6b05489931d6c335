-- A message as numbers: head code, device, then the fields, each a value of its type.
use Rattle.std.specs.Prelude.{Option, Some, None, List, [], ◌∷◌, ◌++◌, map, ℕ, ℤ, pos, get_or}
use Rattle.messages.specs.Fields.{bit}
use Rattle.messages.specs.Structures.{loop_byte, extended_loop_byte}
use Rattle.numbers_to_message.specs.declared.fit.NumberType.{NumberType}
use Rattle.numbers_to_message.specs.Types.{DeviceID, SampleDumpMsg, ExtendedSampleDumpMsg, ManufacturerID, IdentityReply, FileDumpMsg, GeneralMidi, WAVMap, SelectMap, FileReferenceMsg, UniversalNonRealTimeMsg}
use Rattle.numbers_to_message.specs.Values.{Value, file_number_of, reference_number_of, signed_number_of, device_number_of, loop_index_of, bank_number_of}
use Rattle.numbers_to_message.specs.declared.fit.NumberType.TheVariants.{U8, U16, U32, U64, I8, I16, Flag, Device, RequestedLoop, TransmittedLoop, LoopType, ExtendedLoopType, FileType, ReferenceType, BankOrNone, Zero, One, Two, Three}
use Rattle.messages.specs.declared.sample_dump.SampleDumpMsg.TheVariants as sample
use Rattle.messages.specs.declared.sample_dump.ExtendedSampleDumpMsg.TheVariants as extended
use Rattle.messages.specs.declared.file_dump.FileDumpMsg.TheVariants as file
use Rattle.messages.specs.declared.general_midi.GeneralMidi.TheVariants.{GM1, Off, GM2}
use Rattle.messages.specs.declared.file_reference.SelectMap.TheVariants as select
use Rattle.messages.specs.declared.file_reference.FileReferenceMsg.TheVariants as reference
use Rattle.messages.specs.declared.system_exclusive.ManufacturerID.TheVariants.{OneByte, Extended}
use Rattle.messages.specs.declared.system_exclusive.UniversalNonRealTimeMsg.TheVariants as msg

-- a value of a type
abbrev pub Field : Type 0
Field = (t : NumberType) × Value t

-- the number of a value
abbrev pub number : (t : NumberType) → Value t → ℕ
number U8 n = n
number U16 n = n
number U32 n = n
number U64 n = n
number I8 z = signed_number_of z
number I16 z = signed_number_of z
number Flag b = bit b
number Device d = device_number_of d
number RequestedLoop i = loop_index_of i
number TransmittedLoop i = loop_index_of i
number LoopType t = loop_byte t
number ExtendedLoopType t = extended_loop_byte t
number FileType t = file_number_of t
number ReferenceType t = reference_number_of t
number BankOrNone b = bank_number_of b
number Zero u = 0
number One u = 1
number Two u = 2
number Three u = 3

-- a head code and its fields
abbrev pub Coded : Type 0
Coded = ℕ × List Field

-- the numbers of fields
abbrev pub field_numbers : List Field → List ℕ
field_numbers l = map (λ (f : Field). number f.0 f.1) l

-- "Head code, device, then the fields"
abbrev pub numbers : ℕ → Coded → List ℕ
numbers d x = x.0 ∷ d ∷ field_numbers x.1

-- ---- the rows of the table, in its order

-- sample dumps
abbrev pub of_sample : SampleDumpMsg → Coded
of_sample (sample.Header n f p l s e t) = (0x0100, (U16, n) ∷ (U8, f) ∷ (U32, p) ∷ (U32, l) ∷ (U32, s) ∷ (U32, e) ∷ (LoopType, t) ∷ [])
of_sample (sample.Packet c) = (0x0200, (U8, c) ∷ [])
of_sample (sample.Request n) = (0x0300, (U16, n) ∷ [])
of_sample (sample.LoopPointTransmission n i t s e) = (0x0501, (U16, n) ∷ (TransmittedLoop, i) ∷ (LoopType, t) ∷ (U32, s) ∷ (U32, e) ∷ [])
of_sample (sample.LoopPointsRequest n i) = (0x0502, (U16, n) ∷ (RequestedLoop, i) ∷ [])

-- extended sample dumps
abbrev pub of_extended : ExtendedSampleDumpMsg → Coded
of_extended (extended.SampleName n) = (0x0503, (U16, n) ∷ [])
of_extended (extended.SampleNameRequest n) = (0x0504, (U16, n) ∷ [])
of_extended (extended.Header n f w r l s e t c) =
    (0x0505, (U16, n) ∷ (U8, f) ∷ (U32, w) ∷ (U32, r) ∷ (U64, l) ∷ (U64, s) ∷ (U64, e) ∷ (ExtendedLoopType, t) ∷ (U8, c) ∷ [])
of_extended (extended.LoopPointTransmission n i t s e) = (0x0506, (U16, n) ∷ (TransmittedLoop, i) ∷ (ExtendedLoopType, t) ∷ (U64, s) ∷ (U64, e) ∷ [])
of_extended (extended.LoopPointsRequest n i) = (0x0507, (U16, n) ∷ (RequestedLoop, i) ∷ [])

-- "maker form (0 one byte, 1 two bytes), m1, m2 (0 in form 0)"
abbrev pub maker : ManufacturerID → List Field
maker (OneByte m) = (Zero, tt) ∷ (U8, m) ∷ (Zero, tt) ∷ []
maker (Extended m n) = (One, tt) ∷ (U8, m) ∷ (U8, n) ∷ []

-- "family, member, r1 to r4"
abbrev pub after_maker : IdentityReply → List Field
after_maker r =
    (U16, r.family) ∷ (U16, r.family_member) ∷ (U8, r.software_revision.0) ∷ (U8, r.software_revision.1)
    ∷ (U8, r.software_revision.2) ∷ (U8, r.software_revision.3) ∷ []

-- an identity reply
abbrev pub of_identity : IdentityReply → Coded
of_identity r = (0x0602, maker r.id ++ after_maker r)

-- file dumps
abbrev pub of_file : FileDumpMsg → Coded
of_file (file.Header s t l) = (0x0701, (Device, s) ∷ (FileType, t) ∷ (U32, l) ∷ [])
of_file (file.Packet c) = (0x0702, (U8, c) ∷ [])
of_file (file.Request r t) = (0x0703, (Device, r) ∷ (FileType, t) ∷ [])

-- a program; with a bank another head code, and the bank before it
abbrev pub banked : ℕ → ℕ → Option ℕ → ℕ → Coded
banked without with None p = (without, (U8, p) ∷ [])
banked without with (Some b) p = (with, (U8, b) ∷ (U8, p) ∷ [])

-- "twelve values" of one byte
abbrev pub scale_1 : List ℤ → List Field
scale_1 s =
    (I8, get_or s 0 (pos 0)) ∷ (I8, get_or s 1 (pos 0)) ∷ (I8, get_or s 2 (pos 0)) ∷ (I8, get_or s 3 (pos 0)) ∷ (I8, get_or s 4 (pos 0)) ∷ (I8, get_or s 5 (pos 0))
    ∷ (I8, get_or s 6 (pos 0)) ∷ (I8, get_or s 7 (pos 0)) ∷ (I8, get_or s 8 (pos 0)) ∷ (I8, get_or s 9 (pos 0)) ∷ (I8, get_or s 10 (pos 0)) ∷ (I8, get_or s 11 (pos 0)) ∷ []

-- "twelve values" of two bytes
abbrev pub scale_2 : List ℤ → List Field
scale_2 s =
    (I16, get_or s 0 (pos 0)) ∷ (I16, get_or s 1 (pos 0)) ∷ (I16, get_or s 2 (pos 0)) ∷ (I16, get_or s 3 (pos 0)) ∷ (I16, get_or s 4 (pos 0)) ∷ (I16, get_or s 5 (pos 0))
    ∷ (I16, get_or s 6 (pos 0)) ∷ (I16, get_or s 7 (pos 0)) ∷ (I16, get_or s 8 (pos 0)) ∷ (I16, get_or s 9 (pos 0)) ∷ (I16, get_or s 10 (pos 0)) ∷ (I16, get_or s 11 (pos 0)) ∷ []

-- General MIDI
abbrev pub of_midi : GeneralMidi → Coded
of_midi GM1 = (0x0901, [])
of_midi Off = (0x0902, [])
of_midi GM2 = (0x0903, [])

-- "target bank, program, base, low key, high key, fine, volume"
abbrev pub wav : WAVMap → List Field
wav m = (U16, m.dst_bank) ∷ (U8, m.dst_prog) ∷ (U8, m.base) ∷ (U8, m.lokey) ∷ (U8, m.hikey) ∷ (I16, m.fine) ∷ (U8, m.volume) ∷ []

-- "Those that a form does not use are 0"
abbrev pub no_wav : List Field
no_wav = (Zero, tt) ∷ (Zero, tt) ∷ (Zero, tt) ∷ (Zero, tt) ∷ (Zero, tt) ∷ (Zero, tt) ∷ (Zero, tt) ∷ []

-- "A map is ten numbers: form (0 list of bank maps, 1 bank offset, 2 WAV, 3 WAV with offset), offset, drum, then"
abbrev pub of_select : SelectMap → List Field
of_select select.SoundFile = (Zero, tt) ∷ (Zero, tt) ∷ (Zero, tt) ∷ no_wav
of_select (select.SoundFileBankOffset o d) = (One, tt) ∷ (U16, o) ∷ (Flag, d) ∷ no_wav
of_select (select.WAV m) = (Two, tt) ∷ (Zero, tt) ∷ (Zero, tt) ∷ wav m
of_select (select.WAVBankOffset m o d) = (Three, tt) ∷ (U16, o) ∷ (Flag, d) ∷ wav m

-- file references
abbrev pub of_reference : FileReferenceMsg → Coded
of_reference (reference.Open c t) = (0x0B01, (U16, c) ∷ (ReferenceType, t) ∷ [])
of_reference (reference.SelectContents c m) = (0x0B02, (U16, c) ∷ of_select m)
of_reference (reference.OpenSelectContents c t m) = (0x0B03, (U16, c) ∷ (ReferenceType, t) ∷ of_select m)
of_reference (reference.Close c) = (0x0B04, (U16, c) ∷ [])

-- all of them
abbrev pub coded : UniversalNonRealTimeMsg → Coded
coded (msg.SampleDump m) = of_sample m
coded (msg.ExtendedSampleDump m) = of_extended m
coded msg.IdentityRequest = (0x0601, [])
coded (msg.IdentityReply r) = of_identity r
coded (msg.FileDump m) = of_file m
coded (msg.TuningBulkDumpRequest b p) = banked 0x0800 0x0803 b p
coded (msg.KeyBasedTuningDump k) = banked 0x0801 0x0804 k.tuning_bank_num k.tuning_program_num
coded (msg.ScaleTuningDump1Byte s) = (0x0805, (U8, s.tuning_bank_num) ∷ (U8, s.tuning_program_num) ∷ scale_1 s.tuning)
coded (msg.ScaleTuningDump2Byte s) = (0x0806, (U8, s.tuning_bank_num) ∷ (U8, s.tuning_program_num) ∷ scale_2 s.tuning)
coded (msg.TuningNoteChange c) = (0x0807, (BankOrNone, c.tuning_bank_num) ∷ (U8, c.tuning_program_num) ∷ [])
coded (msg.ScaleTuning1Byte s) = (0x0808, (U16, s.channels.channels) ∷ scale_1 s.tuning)
coded (msg.ScaleTuning2Byte s) = (0x0809, (U16, s.channels.channels) ∷ scale_2 s.tuning)
coded (msg.GeneralMidi g) = of_midi g
coded (msg.FileReference m) = of_reference m
coded msg.EOF = (0x7B00, [])
coded msg.Wait = (0x7C00, [])
coded msg.Cancel = (0x7D00, [])
coded (msg.NAK n) = (0x7E00, (U8, n) ∷ [])
coded (msg.ACK n) = (0x7F00, (U8, n) ∷ [])

-- the numbers of a message for a device
unfoldable pub numbers_of : DeviceID → UniversalNonRealTimeMsg → List ℕ
numbers_of d m = numbers (device_number_of d) (coded m)
