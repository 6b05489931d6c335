-- A message has at most 16 numbers. Assumes nothing.
use mathlib.Core.List.{◌++◌}
use Prim.Native.Nat.{ℕ, ◌≤◌}
use native.Mathlib.Omega.{arith}
use lib.ListN.{length}
use Rattle.numbers_to_message.specs.Types.{DeviceID, SampleDumpMsg, ExtendedSampleDumpMsg, ManufacturerID, IdentityReply, FileDumpMsg, GeneralMidi, SelectMap, FileReferenceMsg, UniversalNonRealTimeMsg}
use Rattle.messages.specs.declared.sample_dump.SampleDumpMsg.TheVariants as sample
use Rattle.messages.specs.declared.sample_dump.ExtendedSampleDumpMsg.TheVariants as extended
use Rattle.messages.specs.declared.file_dump.FileDumpMsg.TheVariants as file
use Rattle.std.specs.Prelude.{Option, Some, None}
use Rattle.messages.specs.declared.general_midi.GeneralMidi.TheVariants.{GM1, Off, GM2}
use Rattle.messages.specs.declared.file_reference.SelectMap.TheVariants as select
use Rattle.messages.specs.declared.file_reference.FileReferenceMsg.TheVariants as reference
use Rattle.messages.specs.declared.system_exclusive.ManufacturerID.TheVariants.{OneByte, Extended}
use Rattle.messages.specs.declared.system_exclusive.UniversalNonRealTimeMsg.TheVariants as msg
use Rattle.numbers_of_message.specs.Numbers.{Coded, field_numbers, of_sample, of_extended, maker, after_maker, of_file, banked, of_midi, of_select, of_reference, coded, numbers_of}

-- at most 14 fields
abbrev Few : Coded → Type 0
Few x = length (field_numbers x.1) ≤ 14

few_sample : (m : SampleDumpMsg) → Few (of_sample m)
few_sample (sample.Header n f p l s e t) = omega arith
few_sample (sample.Packet c) = omega arith
few_sample (sample.Request n) = omega arith
few_sample (sample.LoopPointTransmission n i t s e) = omega arith
few_sample (sample.LoopPointsRequest n i) = omega arith

few_extended : (m : ExtendedSampleDumpMsg) → Few (of_extended m)
few_extended (extended.SampleName n) = omega arith
few_extended (extended.SampleNameRequest n) = omega arith
few_extended (extended.Header n f w r l s e t c) = omega arith
few_extended (extended.LoopPointTransmission n i t s e) = omega arith
few_extended (extended.LoopPointsRequest n i) = omega arith

few_reply : (k : ManufacturerID) (r : IdentityReply) → length (field_numbers (maker k ++ after_maker r)) ≤ 14
few_reply (OneByte m) r = omega arith
few_reply (Extended m n) r = omega arith

few_file : (m : FileDumpMsg) → Few (of_file m)
few_file (file.Header s t l) = omega arith
few_file (file.Packet c) = omega arith
few_file (file.Request r t) = omega arith

few_banked : (a b : ℕ) (k : Option ℕ) (p : ℕ) → Few (banked a b k p)
few_banked a b None p = omega arith
few_banked a b (Some k) p = omega arith

few_midi : (g : GeneralMidi) → Few (of_midi g)
few_midi GM1 = omega arith
few_midi Off = omega arith
few_midi GM2 = omega arith

few_select : (m : SelectMap) → length (field_numbers (of_select m)) ≤ 10
few_select select.SoundFile = omega arith
few_select (select.SoundFileBankOffset o d) = omega arith
few_select (select.WAV m) = omega arith
few_select (select.WAVBankOffset m o d) = omega arith

few_reference : (m : FileReferenceMsg) → Few (of_reference m)
few_reference (reference.Open c t) = omega arith
few_reference (reference.SelectContents c m) = omega (arith, few_select m)
few_reference (reference.OpenSelectContents c t m) = omega (arith, few_select m)
few_reference (reference.Close c) = omega arith

few : (m : UniversalNonRealTimeMsg) → Few (coded m)
few (msg.SampleDump m) = few_sample m
few (msg.ExtendedSampleDump m) = few_extended m
few msg.IdentityRequest = omega arith
few (msg.IdentityReply r) = few_reply r.id r
few (msg.FileDump m) = few_file m
few (msg.TuningBulkDumpRequest b p) = few_banked _ _ b p
few (msg.KeyBasedTuningDump k) = few_banked _ _ k.tuning_bank_num k.tuning_program_num
few (msg.ScaleTuningDump1Byte s) = omega arith
few (msg.ScaleTuningDump2Byte s) = omega arith
few (msg.TuningNoteChange c) = omega arith
few (msg.ScaleTuning1Byte s) = omega arith
few (msg.ScaleTuning2Byte s) = omega arith
few (msg.GeneralMidi g) = few_midi g
few (msg.FileReference m) = few_reference m
few msg.EOF = omega arith
few msg.Wait = omega arith
few msg.Cancel = omega arith
few (msg.NAK n) = omega arith
few (msg.ACK n) = omega arith

pub at_most_16 : (d : DeviceID) (m : UniversalNonRealTimeMsg) → length (numbers_of d m) ≤ 16
unfolding numbers_of
at_most_16 d m = omega (arith, few m)
