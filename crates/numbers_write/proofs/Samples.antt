-- The frames of a sample dump header and of a packet: their bytes, their length, and that they are what is written.
-- Assumes nothing.
use mathlib.Core.Path.{◌≡◌, refl, ◌∙◌}
use mathlib.Core.Bool.{true, false}
use mathlib.Core.List.{List, [], ◌++◌}
use Prim.Native.Nat.{ℕ}
use native.Mathlib.Omega.{arith}
use lib.ListN.{length}
use Rattle.util.specs.Packing.{Bytes}
use Rattle.messages.specs.declared.system_exclusive.DeviceID.{DeviceID}
use Rattle.messages.specs.declared.system_exclusive.UniversalNonRealTimeMsg.TheVariants as msg
use Rattle.messages.specs.declared.sample_dump.LoopType.{LoopType}
use Rattle.messages.specs.declared.sample_dump.SampleDumpMsg.TheVariants as sample
use Rattle.messages.specs.Fields.{device_byte}
use Rattle.messages.specs.Messages.{given, write_of}
use Rattle.write_fronts.specs.Fronts.{front_sample}
use Rattle.write_lists.specs.Parts.{part_sample}
use Rattle.write_lists.proofs.Laws.Sizes.{length_part}
use Rattle.writer.specs.Frames.{wire, frame_of}
use Rattle.writer.proofs.Laws.Sums.{wire_length}
use Rattle.writer.proofs.Laws.Answers.{write_frame}
use Rattle.numbers_write.specs.Messages.{header_message, packet_message}

-- the frame of a header, for device byte d
abbrev pub header_frame : ℕ → ℕ → ℕ → ℕ → ℕ → ℕ → ℕ → LoopType → List ℕ
header_frame d n f p l s e t = wire false (front_sample d (sample.Header n f p l s e t) ++ [])

-- a header's frame has 21 bytes
pub header_length : (d n f p l s e : ℕ) (t : LoopType) → length (header_frame d n f p l s e t) ≡ 21
unfolding wire
header_length d n f p l s e t = refl

-- what is written of a header
pub header_written : (d : DeviceID) (n f p l s e : ℕ) (t : LoopType)
    → write_of (header_message d n f p l s e t) ≡ given (header_frame (device_byte d) n f p l s e t)
unfolding frame_of
header_written d n f p l s e t = write_frame d (msg.SampleDump (sample.Header n f p l s e t)) [] [] refl tt tt

-- the frame of a packet, for device byte d
abbrev pub packet_frame : ℕ → ℕ → List ℕ → List ℕ
packet_frame d c text = wire true (front_sample d (sample.Packet c) ++ part_sample (sample.Packet c) text)

-- a packet has 120 sample bytes
pub samples_length : (c : ℕ) (text : List ℕ) → length (part_sample (sample.Packet c) text) ≡ 120
samples_length c text = length_part (msg.SampleDump (sample.Packet c)) text [] refl

-- a packet's frame has 127 bytes
pub packet_length : (d c : ℕ) (text : List ℕ) → length (packet_frame d c text) ≡ 127
packet_length d c text =
    wire_length true (front_sample d (sample.Packet c)) (part_sample (sample.Packet c) text) ∙ omega (arith, samples_length c text)

-- what is written of a packet
pub packet_written : (d : DeviceID) (c : ℕ) (text : List ℕ) → Bytes text
    → write_of (packet_message d c text) ≡ given (packet_frame (device_byte d) c text)
unfolding frame_of
packet_written d c text y = write_frame d (msg.SampleDump (sample.Packet c)) text [] refl y tt
