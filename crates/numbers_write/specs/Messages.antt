-- The messages that are written from their fields, with no message made of them.
use Rattle.std.specs.Prelude.{List, [], ℕ, ℤ}
use Rattle.messages.specs.declared.system_exclusive.DeviceID.{DeviceID}
use Rattle.messages.specs.declared.system_exclusive.UniversalNonRealTimeMsg.TheVariants as msg
use Rattle.messages.specs.declared.sample_dump.LoopType.{LoopType}
use Rattle.messages.specs.declared.sample_dump.SampleDumpMsg.TheVariants as sample
use Rattle.messages.specs.Messages.{Message}
use Rattle.messages.specs.MessageOf.{message_of}

-- a sample dump header
abbrev pub header_message : DeviceID → ℕ → ℕ → ℕ → ℕ → ℕ → ℕ → LoopType → Message
header_message d n f p l s e t = message_of d (msg.SampleDump (sample.Header n f p l s e t)) [] []

-- a sample dump packet
abbrev pub packet_message : DeviceID → ℕ → List ℕ → Message
packet_message d c text = message_of d (msg.SampleDump (sample.Packet c)) text []

-- a scale tuning dump of two bytes
abbrev pub scale_message : DeviceID → ℕ → ℕ → List ℤ → List ℕ → Message
scale_message d b p s text =
    message_of d (msg.ScaleTuningDump2Byte (record { tuning_bank_num = b; tuning_program_num = p; tuning = s })) text []
