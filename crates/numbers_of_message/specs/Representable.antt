-- The messages whose numbers tell them from all others.
use Rattle.std.specs.Prelude.{◌≡◌, Some, None, List, [], ◌∷◌, ℕ, ◌<◌, ◌^◌, ℤ, pos, negsuc, length, get_or}
use Rattle.std.proofs.Math.Option.{none}
use Rattle.messages.specs.Fields.{named_types}
use Rattle.numbers_to_message.specs.declared.fit.NumberType.{NumberType}
use Rattle.numbers_to_message.specs.Types.{DeviceID, UniversalNonRealTimeMsg}
use Rattle.numbers_to_message.specs.Values.{Value, file_number_of, numbered}
use Rattle.numbers_to_message.specs.declared.fit.NumberType.TheVariants as type
use Rattle.messages.specs.declared.system_exclusive.DeviceID.TheVariants.{Device, AllCall}
use Rattle.messages.specs.declared.sample_dump.LoopNumber.TheVariants.{Loop, RequestAll, DeleteAll}
use Rattle.messages.specs.declared.system_exclusive.UniversalNonRealTimeMsg.TheVariants as msg
use Rattle.messages.specs.declared.file_dump.FileType.TheVariants.{MIDI, MIEX, ESEQ, TEXT, BIN, MAC, Custom}
use Rattle.numbers_of_message.specs.Numbers.{Field, coded}

-- from -n to n - 1
abbrev pub Within : ℕ → ℤ → Type 0
Within n (pos k) = k < n
Within n (negsuc k) = k < n

-- a value in the range of its type; "all" is request all in a request and delete all in a transmission; a custom type spells no named one
abbrev pub Representable : (t : NumberType) → Value t → Type 0
Representable type.U8 n = n < 2 ^ 8
Representable type.U16 n = n < 2 ^ 16
Representable type.U32 n = n < 2 ^ 32
Representable type.U64 n = Unit {0}
Representable type.I8 z = Within (2 ^ 7) z
Representable type.I16 z = Within (2 ^ 15) z
Representable type.Flag b = Unit {0}
Representable type.Device (Device n) = n < 2 ^ 8
Representable type.Device AllCall = Unit {0}
Representable type.RequestedLoop (Loop n) = n < 2 ^ 16
Representable type.RequestedLoop RequestAll = Unit {0}
Representable type.RequestedLoop DeleteAll = ⊥
Representable type.TransmittedLoop (Loop n) = n < 2 ^ 16
Representable type.TransmittedLoop RequestAll = ⊥
Representable type.TransmittedLoop DeleteAll = Unit {0}
Representable type.LoopType t = Unit {0}
Representable type.ExtendedLoopType t = Unit {0}
Representable type.FileType (Custom l) =
    (length l ≡ 4) × ((get_or l 0 0 < 256) × (get_or l 1 0 < 256) × (get_or l 2 0 < 256) × (get_or l 3 0 < 256))
    × (numbered file_number_of named_types (file_number_of (Custom l)) ≡ none)
Representable type.FileType MIDI = Unit {0}
Representable type.FileType MIEX = Unit {0}
Representable type.FileType ESEQ = Unit {0}
Representable type.FileType TEXT = Unit {0}
Representable type.FileType BIN = Unit {0}
Representable type.FileType MAC = Unit {0}
Representable type.ReferenceType t = Unit {0}
Representable type.BankOrNone (Some n) = n < 2 ^ 8
Representable type.BankOrNone None = Unit {0}
Representable type.Zero u = Unit {0}
Representable type.One u = Unit {0}
Representable type.Two u = Unit {0}
Representable type.Three u = Unit {0}

-- each of some fields
abbrev pub AllRepresentable : List Field → Type 0
AllRepresentable [] = Unit {0}
AllRepresentable (f ∷ l) = Representable f.0 f.1 × AllRepresentable l

-- the length of the code's array of a scale, which the list of its values does not have by its type
abbrev pub ScaleOfTwelve : UniversalNonRealTimeMsg → Type 0
ScaleOfTwelve (msg.SampleDump m) = Unit {0}
ScaleOfTwelve (msg.ExtendedSampleDump m) = Unit {0}
ScaleOfTwelve msg.IdentityRequest = Unit {0}
ScaleOfTwelve (msg.IdentityReply r) = Unit {0}
ScaleOfTwelve (msg.FileDump m) = Unit {0}
ScaleOfTwelve (msg.TuningBulkDumpRequest b p) = Unit {0}
ScaleOfTwelve (msg.KeyBasedTuningDump k) = Unit {0}
ScaleOfTwelve (msg.ScaleTuningDump1Byte s) = length s.tuning ≡ 12
ScaleOfTwelve (msg.ScaleTuningDump2Byte s) = length s.tuning ≡ 12
ScaleOfTwelve (msg.TuningNoteChange c) = Unit {0}
ScaleOfTwelve (msg.ScaleTuning1Byte s) = length s.tuning ≡ 12
ScaleOfTwelve (msg.ScaleTuning2Byte s) = length s.tuning ≡ 12
ScaleOfTwelve (msg.GeneralMidi g) = Unit {0}
ScaleOfTwelve (msg.FileReference m) = Unit {0}
ScaleOfTwelve msg.EOF = Unit {0}
ScaleOfTwelve msg.Wait = Unit {0}
ScaleOfTwelve msg.Cancel = Unit {0}
ScaleOfTwelve (msg.NAK n) = Unit {0}
ScaleOfTwelve (msg.ACK n) = Unit {0}

-- the device and each field of the message
abbrev pub MessageRepresentable : DeviceID → UniversalNonRealTimeMsg → Type 0
MessageRepresentable d m = Representable type.Device d × AllRepresentable (coded m).1 × ScaleOfTwelve m
