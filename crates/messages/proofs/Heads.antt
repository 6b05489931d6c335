-- What the table of layouts has to meet, head by head: its codes are told apart, below 128, and followed by enough bytes.
-- Assumes nothing.
use mathlib.Core.Path.{◌≡◌, refl}
use mathlib.Core.Bool.{true}
use mathlib.Core.List.{List, ◌++◌}
use Prim.Native.Nat.{ℕ, ◌≤◌}
use native.Mathlib.Omega.{arith}
use lib.ListN.{length}
use Rattle.util.proofs.Laws.Options.{false_true}
use Rattle.util.specs.Groups.{Seven, seven}
use Rattle.util.proofs.Laws.Groups.{seven_true}
use Rattle.messages.specs.Types.{Head, Kind}
use Rattle.messages.specs.declared.head.Head.TheVariants.{SampleDumpHeader, SampleDumpPacket, SampleDumpRequest, LoopPointTransmission, LoopPointsRequest, SampleName, SampleNameRequest, ExtendedHeader, ExtendedLoopPointTransmission, ExtendedLoopPointsRequest, IdentityRequest, IdentityReply, FileDumpHeader, FileDumpPacket, FileDumpRequest, TuningBulkDumpRequest, KeyBasedTuningDump, BankTuningBulkDumpRequest, BankKeyBasedTuningDump, ScaleTuningDump1Byte, ScaleTuningDump2Byte, TuningNoteChange, ScaleTuning1Byte, ScaleTuning2Byte, GeneralMidi1, GeneralMidiOff, GeneralMidi2, FileReferenceOpen, SelectSoundFile, SelectWAV, FileReferenceOpenSelect, FileReferenceClose, EOF, Wait, Cancel, NAK, ACK}
use Rattle.messages.specs.declared.file_reference.Kind.TheVariants.{Bank, WAV}
use Rattle.messages.specs.format.{got, find}
use Rattle.messages.specs.Layouts.{Fields, form, code, reads, all_heads}

-- a head that is read for the kind is found by its bytes
pub find_head : (k : Kind) (h : Head) (r : List ℕ) → reads k h ≡ true → find (reads k) code all_heads (code h ++ r) ≡ got h r
find_head k SampleDumpHeader r e = refl
find_head k SampleDumpPacket r e = refl
find_head k SampleDumpRequest r e = refl
find_head k LoopPointTransmission r e = refl
find_head k LoopPointsRequest r e = refl
find_head k SampleName r e = refl
find_head k SampleNameRequest r e = refl
find_head k ExtendedHeader r e = refl
find_head k ExtendedLoopPointTransmission r e = refl
find_head k ExtendedLoopPointsRequest r e = refl
find_head k IdentityRequest r e = refl
find_head k IdentityReply r e = refl
find_head k FileDumpHeader r e = refl
find_head k FileDumpPacket r e = refl
find_head k FileDumpRequest r e = refl
find_head k TuningBulkDumpRequest r e = refl
find_head k KeyBasedTuningDump r e = refl
find_head k BankTuningBulkDumpRequest r e = refl
find_head k BankKeyBasedTuningDump r e = refl
find_head k ScaleTuningDump1Byte r e = refl
find_head k ScaleTuningDump2Byte r e = refl
find_head k TuningNoteChange r e = refl
find_head k ScaleTuning1Byte r e = refl
find_head k ScaleTuning2Byte r e = refl
find_head k GeneralMidi1 r e = refl
find_head k GeneralMidiOff r e = refl
find_head k GeneralMidi2 r e = refl
find_head k FileReferenceOpen r e = refl
find_head Bank SelectSoundFile r e = refl
find_head WAV SelectSoundFile r e = absurd (false_true e)
find_head Bank SelectWAV r e = absurd (false_true e)
find_head WAV SelectWAV r e = refl
find_head k FileReferenceOpenSelect r e = refl
find_head k FileReferenceClose r e = refl
find_head k EOF r e = refl
find_head k Wait r e = refl
find_head k Cancel r e = refl
find_head k NAK r e = refl
find_head k ACK r e = refl

codes_seven : (h : Head) → seven (code h) ≡ true
codes_seven = elim [ SampleDumpHeader ↦ refl | SampleDumpPacket ↦ refl | SampleDumpRequest ↦ refl | LoopPointTransmission ↦ refl | LoopPointsRequest ↦ refl | SampleName ↦ refl | SampleNameRequest ↦ refl | ExtendedHeader ↦ refl | ExtendedLoopPointTransmission ↦ refl | ExtendedLoopPointsRequest ↦ refl | IdentityRequest ↦ refl | IdentityReply ↦ refl | FileDumpHeader ↦ refl | FileDumpPacket ↦ refl | FileDumpRequest ↦ refl | TuningBulkDumpRequest ↦ refl | KeyBasedTuningDump ↦ refl | BankTuningBulkDumpRequest ↦ refl | BankKeyBasedTuningDump ↦ refl | ScaleTuningDump1Byte ↦ refl | ScaleTuningDump2Byte ↦ refl | TuningNoteChange ↦ refl | ScaleTuning1Byte ↦ refl | ScaleTuning2Byte ↦ refl | GeneralMidi1 ↦ refl | GeneralMidiOff ↦ refl | GeneralMidi2 ↦ refl | FileReferenceOpen ↦ refl | SelectSoundFile ↦ refl | SelectWAV ↦ refl | FileReferenceOpenSelect ↦ refl | FileReferenceClose ↦ refl | EOF ↦ refl | Wait ↦ refl | Cancel ↦ refl | NAK ↦ refl | ACK ↦ refl ]

pub code_seven : (h : Head) → Seven (code h)
code_seven h = seven_true (code h) (codes_seven h)

-- head and fields are never fewer than two bytes
pub two_bytes : (h : Head) (f : Fields h) → 2 ≤ length (code h ++ (form h).bytes f)
two_bytes SampleDumpHeader f = omega arith
two_bytes SampleDumpPacket f = omega arith
two_bytes SampleDumpRequest f = omega arith
two_bytes LoopPointTransmission f = omega arith
two_bytes LoopPointsRequest f = omega arith
two_bytes SampleName f = omega arith
two_bytes SampleNameRequest f = omega arith
two_bytes ExtendedHeader f = omega arith
two_bytes ExtendedLoopPointTransmission f = omega arith
two_bytes ExtendedLoopPointsRequest f = omega arith
two_bytes IdentityRequest f = omega arith
two_bytes IdentityReply f = omega arith
two_bytes FileDumpHeader f = omega arith
two_bytes FileDumpPacket f = omega arith
two_bytes FileDumpRequest f = omega arith
two_bytes TuningBulkDumpRequest f = omega arith
two_bytes KeyBasedTuningDump f = omega arith
two_bytes BankTuningBulkDumpRequest f = omega arith
two_bytes BankKeyBasedTuningDump f = omega arith
two_bytes ScaleTuningDump1Byte f = omega arith
two_bytes ScaleTuningDump2Byte f = omega arith
two_bytes TuningNoteChange f = omega arith
two_bytes ScaleTuning1Byte f = omega arith
two_bytes ScaleTuning2Byte f = omega arith
two_bytes GeneralMidi1 f = omega arith
two_bytes GeneralMidiOff f = omega arith
two_bytes GeneralMidi2 f = omega arith
two_bytes FileReferenceOpen f = omega arith
two_bytes SelectSoundFile f = omega arith
two_bytes SelectWAV f = omega arith
two_bytes FileReferenceOpenSelect f = omega arith
two_bytes FileReferenceClose f = omega arith
two_bytes EOF f = omega arith
two_bytes Wait f = omega arith
two_bytes Cancel f = omega arith
two_bytes NAK f = omega arith
two_bytes ACK f = omega arith
