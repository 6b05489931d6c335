-- The types that the code declares, as one list of names, and what numbers are read as.
use Rattle.std.specs.Prelude.{Option}
pub use Rattle.messages.specs.declared.file_dump.FileDumpMsg.{FileDumpMsg}
pub use Rattle.messages.specs.declared.file_dump.FileType.{FileType}
pub use Rattle.messages.specs.declared.file_reference.FileReferenceMsg.{FileReferenceMsg}
pub use Rattle.messages.specs.declared.file_reference.FileReferenceType.{FileReferenceType}
pub use Rattle.messages.specs.declared.file_reference.SelectMap.{SelectMap}
pub use Rattle.messages.specs.declared.file_reference.WAVMap.{WAVMap}
pub use Rattle.messages.specs.declared.general_midi.GeneralMidi.{GeneralMidi}
pub use Rattle.messages.specs.declared.sample_dump.ExtendedLoopType.{ExtendedLoopType}
pub use Rattle.messages.specs.declared.sample_dump.ExtendedSampleDumpMsg.{ExtendedSampleDumpMsg}
pub use Rattle.messages.specs.declared.sample_dump.LoopNumber.{LoopNumber}
pub use Rattle.messages.specs.declared.sample_dump.LoopType.{LoopType}
pub use Rattle.messages.specs.declared.sample_dump.SampleDumpMsg.{SampleDumpMsg}
pub use Rattle.messages.specs.declared.system_exclusive.DeviceID.{DeviceID}
pub use Rattle.messages.specs.declared.system_exclusive.IdentityReply.{IdentityReply}
pub use Rattle.messages.specs.declared.system_exclusive.ManufacturerID.{ManufacturerID}
pub use Rattle.messages.specs.declared.system_exclusive.UniversalNonRealTimeMsg.{UniversalNonRealTimeMsg}
pub use Rattle.numbers_to_message.specs.declared.fit.NumberType.{NumberType}

-- a device and a message, or nothing
abbrev pub Made : Type 0
Made = Option (DeviceID × UniversalNonRealTimeMsg)
