-- Handshake messages: a head and a number, in frames of six bytes.
use Rattle.std.specs.Prelude.{false, List, [], ◌∷◌, ℕ, Option, Some, None}
use Rattle.messages.specs.declared.system_exclusive.UniversalNonRealTimeMsg.{UniversalNonRealTimeMsg}
use Rattle.messages.specs.declared.system_exclusive.UniversalNonRealTimeMsg.TheVariants as msg
use Rattle.write_fronts.specs.Fronts.{start_1}
use Rattle.writer.specs.Frames.{wire}

-- the head and the number of a handshake message
abbrev pub handshake_of : UniversalNonRealTimeMsg → Option (ℕ × ℕ)
handshake_of (msg.SampleDump m) = None
handshake_of (msg.ExtendedSampleDump m) = None
handshake_of msg.IdentityRequest = None
handshake_of (msg.IdentityReply r) = None
handshake_of (msg.FileDump m) = None
handshake_of (msg.TuningBulkDumpRequest b p) = None
handshake_of (msg.KeyBasedTuningDump k) = None
handshake_of (msg.ScaleTuningDump1Byte s) = None
handshake_of (msg.ScaleTuningDump2Byte s) = None
handshake_of (msg.TuningNoteChange c) = None
handshake_of (msg.ScaleTuning1Byte s) = None
handshake_of (msg.ScaleTuning2Byte s) = None
handshake_of (msg.GeneralMidi g) = None
handshake_of (msg.FileReference m) = None
handshake_of msg.EOF = Some (0x7B, 0)
handshake_of msg.Wait = Some (0x7C, 0)
handshake_of msg.Cancel = Some (0x7D, 0)
handshake_of (msg.NAK n) = Some (0x7E, n)
handshake_of (msg.ACK n) = Some (0x7F, n)

-- the frame of head a and number n, for device byte d
abbrev pub handshake_frame : ℕ → ℕ → ℕ → List ℕ
handshake_frame d a n = wire false (start_1 d a ((1, n) ∷ []))
