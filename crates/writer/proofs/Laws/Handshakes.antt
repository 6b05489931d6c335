-- The frame of a handshake message.
-- Assumes nothing.
use mathlib.Core.Path.{◌≡◌, refl, ap, ap₂, ◌∙◌}
use mathlib.Core.List.{List}
use Prim.Native.Nat.{ℕ}
use lib.ListN.{length}
use Rattle.util.specs.Packing.{Bytes}
use Rattle.messages.specs.declared.system_exclusive.DeviceID.{DeviceID}
use Rattle.messages.specs.declared.system_exclusive.UniversalNonRealTimeMsg.{UniversalNonRealTimeMsg}
use Rattle.messages.specs.declared.system_exclusive.UniversalNonRealTimeMsg.TheVariants as msg
use Rattle.messages.specs.Fields.{device_byte}
use Rattle.messages.specs.Messages.{Answer, given, write_of}
use Rattle.messages.specs.MessageOf.{message_of}
use Rattle.std.specs.Prelude.{Option, Some}
use Rattle.writer.specs.Frames.{wire, frame_of}
use Rattle.writer.specs.Handshakes.{handshake_of, handshake_frame}
use Rattle.writer.proofs.Laws.Answers.{write_frame}

-- it has six bytes
pub six : (d a n : ℕ) → length (handshake_frame d a n) ≡ 6
unfolding wire
six d a n = refl

-- the same head and number
same : (d a b n k : ℕ) → ◌≡◌ {A = Option (ℕ × ℕ)} (Some (a, n)) (Some (b, k)) → ◌≡◌ {A = Answer (List ℕ)} (given (handshake_frame d a n)) (given (handshake_frame d b k))
same d a b n k e =
    let p : ◌≡◌ {A = ℕ × ℕ} (a, n) (b, k) = cc in
    let f : a ≡ b = ap (λ (t : ℕ × ℕ). t.0) p in
    let g : n ≡ k = ap (λ (t : ℕ × ℕ). t.1) p in
    ap₂ (λ (x y : ℕ). given (handshake_frame d x y)) f g

-- what is written of a handshake message
pub handshake_written : (d : DeviceID) (m : UniversalNonRealTimeMsg) (text entries : List ℕ) (a n : ℕ) → handshake_of m ≡ Some (a, n) → Bytes text
    → write_of (message_of d m text entries) ≡ given (handshake_frame (device_byte d) a n)
unfolding frame_of
handshake_written d (msg.SampleDump m) text entries a n e y = cc
handshake_written d (msg.ExtendedSampleDump m) text entries a n e y = cc
handshake_written d msg.IdentityRequest text entries a n e y = cc
handshake_written d (msg.IdentityReply r) text entries a n e y = cc
handshake_written d (msg.FileDump m) text entries a n e y = cc
handshake_written d (msg.TuningBulkDumpRequest b p) text entries a n e y = cc
handshake_written d (msg.KeyBasedTuningDump k) text entries a n e y = cc
handshake_written d (msg.ScaleTuningDump1Byte s) text entries a n e y = cc
handshake_written d (msg.ScaleTuningDump2Byte s) text entries a n e y = cc
handshake_written d (msg.TuningNoteChange c) text entries a n e y = cc
handshake_written d (msg.ScaleTuning1Byte s) text entries a n e y = cc
handshake_written d (msg.ScaleTuning2Byte s) text entries a n e y = cc
handshake_written d (msg.GeneralMidi g) text entries a n e y = cc
handshake_written d (msg.FileReference m) text entries a n e y = cc
handshake_written d msg.EOF text entries a n e y = write_frame d msg.EOF text entries refl y tt ∙ same (device_byte d) 0x7B a 0 n e
handshake_written d msg.Wait text entries a n e y = write_frame d msg.Wait text entries refl y tt ∙ same (device_byte d) 0x7C a 0 n e
handshake_written d msg.Cancel text entries a n e y = write_frame d msg.Cancel text entries refl y tt ∙ same (device_byte d) 0x7D a 0 n e
handshake_written d (msg.NAK k) text entries a n e y = write_frame d (msg.NAK k) text entries refl y tt ∙ same (device_byte d) 0x7E a k n e
handshake_written d (msg.ACK k) text entries a n e y = write_frame d (msg.ACK k) text entries refl y tt ∙ same (device_byte d) 0x7F a k n e
