-- How many bytes the front of each message has.
use Rattle.std.specs.Prelude.{Option, Some, None, ℕ}
use Rattle.messages.specs.declared.system_exclusive.ManufacturerID.{ManufacturerID}
use Rattle.messages.specs.declared.sample_dump.SampleDumpMsg.{SampleDumpMsg}
use Rattle.messages.specs.declared.sample_dump.ExtendedSampleDumpMsg.{ExtendedSampleDumpMsg}
use Rattle.messages.specs.declared.file_dump.FileDumpMsg.{FileDumpMsg}
use Rattle.messages.specs.declared.file_reference.FileReferenceMsg.{FileReferenceMsg}
use Rattle.messages.specs.declared.system_exclusive.UniversalNonRealTimeMsg.{UniversalNonRealTimeMsg}
use Rattle.messages.specs.declared.system_exclusive.ManufacturerID.TheVariants.{OneByte, Extended}
use Rattle.messages.specs.declared.sample_dump.SampleDumpMsg.TheVariants as sample
use Rattle.messages.specs.declared.sample_dump.ExtendedSampleDumpMsg.TheVariants as extended
use Rattle.messages.specs.declared.file_dump.FileDumpMsg.TheVariants as file
use Rattle.messages.specs.declared.file_reference.FileReferenceMsg.TheVariants as reference
use Rattle.messages.specs.declared.system_exclusive.UniversalNonRealTimeMsg.TheVariants as msg

abbrev pub size_sample : SampleDumpMsg → ℕ
size_sample (sample.Header n f p l s e t) = 19
size_sample (sample.Packet c) = 4
size_sample (sample.Request n) = 5
size_sample (sample.LoopPointTransmission n i t s e) = 15
size_sample (sample.LoopPointsRequest n i) = 8

abbrev pub size_extended : ExtendedSampleDumpMsg → ℕ
size_extended (extended.SampleName n) = 7
size_extended (extended.SampleNameRequest n) = 6
size_extended (extended.Header n f w r l s e t c) = 32
size_extended (extended.LoopPointTransmission n i t s e) = 19
size_extended (extended.LoopPointsRequest n i) = 8

abbrev pub size_maker : ManufacturerID → ℕ
size_maker (OneByte b) = 13
size_maker (Extended a b) = 15

abbrev pub size_file : FileDumpMsg → ℕ
size_file (file.Header s t l) = 13
size_file (file.Packet c) = 5
size_file (file.Request r t) = 9

abbrev pub size_bank : Option ℕ → ℕ
size_bank None = 5
size_bank (Some b) = 6

abbrev pub size_reference : FileReferenceMsg → ℕ
size_reference (reference.Open c t) = 12
size_reference (reference.SelectContents c m) = 8
size_reference (reference.OpenSelectContents c t m) = 12
size_reference (reference.Close c) = 8

abbrev pub front_size : UniversalNonRealTimeMsg → ℕ
front_size (msg.SampleDump m) = size_sample m
front_size (msg.ExtendedSampleDump m) = size_extended m
front_size msg.IdentityRequest = 4
front_size (msg.IdentityReply r) = size_maker r.id
front_size (msg.FileDump m) = size_file m
front_size (msg.TuningBulkDumpRequest b p) = size_bank b
front_size (msg.KeyBasedTuningDump k) = size_bank k.tuning_bank_num
front_size (msg.ScaleTuningDump1Byte s) = 6
front_size (msg.ScaleTuningDump2Byte s) = 6
front_size (msg.TuningNoteChange c) = 6
front_size (msg.ScaleTuning1Byte s) = 7
front_size (msg.ScaleTuning2Byte s) = 7
front_size (msg.GeneralMidi g) = 4
front_size (msg.FileReference m) = size_reference m
front_size msg.EOF = 4
front_size msg.Wait = 4
front_size msg.Cancel = 4
front_size (msg.NAK n) = 4
front_size (msg.ACK n) = 4
