-- The refusals of contents written, rows 1 to 4, in the rows' words: a line for each head.
use Rattle.std.proofs.Math.Option.{Option, none, some}
use Rattle.std.specs.Prelude.{List, ℕ, leb, length}
use Rattle.util.specs.Limits.{most_data, most_name, most_changes}
use Rattle.util.specs.Fields.{fits_u28}
use Rattle.util.specs.Options.{unless}
use Rattle.messages.specs.Types.{Refusal, Head, ManufacturerID, FileReferenceType}
use Rattle.util.specs.declared.refusal.Refusal.TheVariants.{High, Long, Value, Kind}
use Rattle.messages.specs.declared.head.Head.TheVariants.{SampleDumpHeader, SampleDumpPacket, SampleDumpRequest, LoopPointTransmission, LoopPointsRequest, SampleName, SampleNameRequest, ExtendedHeader, ExtendedLoopPointTransmission, ExtendedLoopPointsRequest, IdentityRequest, IdentityReply, FileDumpHeader, FileDumpPacket, FileDumpRequest, TuningBulkDumpRequest, KeyBasedTuningDump, BankTuningBulkDumpRequest, BankKeyBasedTuningDump, ScaleTuningDump1Byte, ScaleTuningDump2Byte, TuningNoteChange, ScaleTuning1Byte, ScaleTuning2Byte, GeneralMidi1, GeneralMidiOff, GeneralMidi2, FileReferenceOpen, SelectSoundFile, SelectWAV, FileReferenceOpenSelect, FileReferenceClose, EOF, Wait, Cancel, NAK, ACK}
use Rattle.messages.specs.declared.system_exclusive.ManufacturerID.TheVariants.{OneByte, Extended}
use Rattle.messages.specs.declared.file_reference.FileReferenceType.TheVariants.{DLS, SF2, WAV}
use Rattle.messages.specs.Refusals.{least}
use Rattle.messages.specs.format.{is_text}
use Rattle.messages.specs.Fields.{high, type_bytes}
use Rattle.messages.specs.Maps.{AnySelect, of_bank, of_wav}
use Rattle.messages.specs.Layouts.{Fields}

-- 1 HIGH: "URL has a byte above 127", "or URL a 00"
abbrev pub high_url : List ℕ → Option Refusal
high_url l = unless High (is_text l)

-- 2 LONG: a list of more than n
abbrev pub longer : {A : Type 0} → ℕ → List A → Option Refusal
longer n l = unless Long (leb (length l) n)

-- 3 VALUE: "a u28 of 2^28 or more"
abbrev pub too_large : ℕ → Option Refusal
too_large v = unless Value (fits_u28 v)

-- 3 VALUE: "one-byte maker 00"
abbrev pub zero_maker : ManufacturerID → Option Refusal
zero_maker (OneByte b) = unless Value (leb 1 b)
zero_maker (Extended a b) = none

-- 4 KIND: "0B 03 with a map of the other kind"
abbrev pub other_kind : FileReferenceType → AnySelect → Option Refusal
other_kind DLS (of_bank x) = none
other_kind DLS (of_wav x) = some Kind
other_kind SF2 (of_bank x) = none
other_kind SF2 (of_wav x) = some Kind
other_kind WAV (of_bank x) = some Kind
other_kind WAV (of_wav x) = none

abbrev pub contents : (h : Head) → Fields h → Option Refusal
contents SampleName f = high f.name
contents ExtendedHeader f = least (too_large f.rate_whole) (too_large f.rate_fraction)
contents IdentityReply f = zero_maker f.id
contents FileDumpHeader f = least (high (type_bytes f.type)) (least (too_large f.length) (least (longer most_name f.name) (high f.name)))
contents FileDumpPacket f = longer most_data f.file_data
contents FileDumpRequest f = least (high (type_bytes f.type)) (least (longer most_name f.name) (high f.name))
contents KeyBasedTuningDump f = high f.name
contents BankKeyBasedTuningDump f = high f.name
contents ScaleTuningDump1Byte f = high f.name
contents ScaleTuningDump2Byte f = high f.name
contents TuningNoteChange f = longer most_changes f.changes
contents FileReferenceOpen f = high_url f.url
contents FileReferenceOpenSelect f = least (high_url f.url) (other_kind f.type f.map)
contents SampleDumpHeader f = none
contents SampleDumpPacket f = none
contents SampleDumpRequest f = none
contents LoopPointTransmission f = none
contents LoopPointsRequest f = none
contents SampleNameRequest f = none
contents ExtendedLoopPointTransmission f = none
contents ExtendedLoopPointsRequest f = none
contents IdentityRequest f = none
contents TuningBulkDumpRequest f = none
contents BankTuningBulkDumpRequest f = none
contents ScaleTuning1Byte f = none
contents ScaleTuning2Byte f = none
contents GeneralMidi1 f = none
contents GeneralMidiOff f = none
contents GeneralMidi2 f = none
contents SelectSoundFile f = none
contents SelectWAV f = none
contents FileReferenceClose f = none
contents EOF f = none
contents Wait f = none
contents Cancel f = none
contents NAK f = none
contents ACK f = none
