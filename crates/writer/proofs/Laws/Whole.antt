-- The frame of every message by its front and its part, and what the writer needs to know of its length.
-- Assumes nothing.
use mathlib.Core.Path.{◌≡◌, refl, sym}
use mathlib.Core.Bool.{Bool, true, false}
use mathlib.Core.Option.{none}
use mathlib.Core.List.{List, [], ◌∷◌, ◌++◌, append-nil}
use Prim.Native.Nat.{ℕ, ◌<◌}
use lib.ListN.{length}
use denote.Laws.{Is}
use denote.Enum.Declared as Declared
use denote.Enum.Laws as Enum
use Rattle.util.specs.Packing.{Bytes}
use Rattle.messages.specs.contracts.system_exclusive.UniversalNonRealTimeMsg as the
use Rattle.messages.proofs.system_exclusive.UniversalNonRealTimeMsg.TheLaws as its
use Rattle.messages.specs.declared.system_exclusive.DeviceID.{DeviceID}
use Rattle.messages.specs.declared.system_exclusive.UniversalNonRealTimeMsg.{UniversalNonRealTimeMsg}
use Rattle.messages.specs.declared.system_exclusive.UniversalNonRealTimeMsg.TheVariants as msg
use Rattle.messages.specs.Fields.{device_byte}
use Rattle.messages.specs.Structures.{revision}
use Rattle.messages.specs.Layouts.{summed}
use Rattle.messages.specs.Messages.{settle, framed, with_sum}
use Rattle.messages.specs.Contents.{contents}
use Rattle.messages.specs.MessageOf.{head_of, fields_of, message_of}
use Rattle.write_fronts.specs.Fronts.{front_of}
use Rattle.write_lists.specs.Parts.{part_of}
use Rattle.writer.specs.Frames.{sum_of, wire}
use Rattle.writer.proofs.Laws.Fronts.{device_held}
use Rattle.writer.proofs.Laws.Frames.{body_of, sample_parts, extended_parts}
use Rattle.writer.proofs.Laws.Bodies.{reply_parts, file_parts, request_parts, keys_parts, midi_parts, channels_same}
use Rattle.writer.proofs.Laws.References.{reference_parts}

-- ---- a set of channels is of sixteen bits

abbrev pub ChannelsFit : UniversalNonRealTimeMsg → Type 0
ChannelsFit (msg.SampleDump m) = Unit {0}
ChannelsFit (msg.ExtendedSampleDump m) = Unit {0}
ChannelsFit msg.IdentityRequest = Unit {0}
ChannelsFit (msg.IdentityReply r) = Unit {0}
ChannelsFit (msg.FileDump m) = Unit {0}
ChannelsFit (msg.TuningBulkDumpRequest b p) = Unit {0}
ChannelsFit (msg.KeyBasedTuningDump k) = Unit {0}
ChannelsFit (msg.ScaleTuningDump1Byte s) = Unit {0}
ChannelsFit (msg.ScaleTuningDump2Byte s) = Unit {0}
ChannelsFit (msg.TuningNoteChange c) = Unit {0}
ChannelsFit (msg.ScaleTuning1Byte s) = s.channels.channels < 65536
ChannelsFit (msg.ScaleTuning2Byte s) = s.channels.channels < 65536
ChannelsFit (msg.GeneralMidi g) = Unit {0}
ChannelsFit (msg.FileReference m) = Unit {0}
ChannelsFit msg.EOF = Unit {0}
ChannelsFit msg.Wait = Unit {0}
ChannelsFit msg.Cancel = Unit {0}
ChannelsFit (msg.NAK n) = Unit {0}
ChannelsFit (msg.ACK n) = Unit {0}

-- which every message that the code has fulfils
pub channels_fit : (m : UniversalNonRealTimeMsg) → Is (Declared.row the.the_type) m (Enum.val the.the_type its.the_laws m ∷ []) → ChannelsFit m
channels_fit (msg.SampleDump m) g = tt
channels_fit (msg.ExtendedSampleDump m) g = tt
channels_fit msg.IdentityRequest g = tt
channels_fit (msg.IdentityReply r) g = tt
channels_fit (msg.FileDump m) g = tt
channels_fit (msg.TuningBulkDumpRequest b p) g = tt
channels_fit (msg.KeyBasedTuningDump k) g = tt
channels_fit (msg.ScaleTuningDump1Byte s) g = tt
channels_fit (msg.ScaleTuningDump2Byte s) g = tt
channels_fit (msg.TuningNoteChange c) g = tt
channels_fit (msg.ScaleTuning1Byte s) g = g.1.1.1.1.0.1.1.0.1.1.0.1
channels_fit (msg.ScaleTuning2Byte s) g = g.1.1.1.1.0.1.1.0.1.1.0.1
channels_fit (msg.GeneralMidi g) h = tt
channels_fit (msg.FileReference m) g = tt
channels_fit msg.EOF g = tt
channels_fit msg.Wait g = tt
channels_fit msg.Cancel g = tt
channels_fit (msg.NAK n) g = tt
channels_fit (msg.ACK n) g = tt

-- ---- the frame

pub body_parts : (v : ℕ) (m : UniversalNonRealTimeMsg) (text entries : List ℕ) → contents (head_of m) (fields_of m text entries) ≡ none → Bytes text → ChannelsFit m
    → body_of v (head_of m) (fields_of m text entries) ≡ front_of v m (length text) (length entries) ++ part_of m text entries
body_parts v (msg.SampleDump m) text entries z y h = sample_parts v m text
body_parts v (msg.ExtendedSampleDump m) text entries z y h = extended_parts v m text
body_parts v msg.IdentityRequest text entries z y h = refl
body_parts v (msg.IdentityReply r) text entries z y h = reply_parts v r.id (r.family, (r.family_member, revision r.software_revision))
body_parts v (msg.FileDump m) text entries z y h = file_parts v m text y
body_parts v (msg.TuningBulkDumpRequest b p) text entries z y h = request_parts v b p
body_parts v (msg.KeyBasedTuningDump k) text entries z y h = keys_parts v k.tuning_bank_num k.tuning_program_num text entries
body_parts v (msg.ScaleTuningDump1Byte s) text entries z y h = refl
body_parts v (msg.ScaleTuningDump2Byte s) text entries z y h = refl
body_parts v (msg.TuningNoteChange c) text entries z y h = refl
body_parts v (msg.ScaleTuning1Byte s) text entries z y h = let e = channels_same s.channels.channels h in rw (e.0, e.1, e.2)
body_parts v (msg.ScaleTuning2Byte s) text entries z y h = let e = channels_same s.channels.channels h in rw (e.0, e.1, e.2)
body_parts v (msg.GeneralMidi g) text entries z y h = midi_parts v g
body_parts v (msg.FileReference m) text entries z y h = reference_parts v m text entries z
body_parts v msg.EOF text entries z y h = refl
body_parts v msg.Wait text entries z y h = refl
body_parts v msg.Cancel text entries z y h = refl
body_parts v (msg.NAK n) text entries z y h = refl
body_parts v (msg.ACK n) text entries z y h = refl

with_sum_of : (t : Bool) (l : List ℕ) → with_sum t l ≡ l ++ sum_of t l
with_sum_of true l = refl
with_sum_of false l = sym (append-nil l)

-- the frame of a message's settled form: F0, its front and its part, the checksum, F7
pub frame_parts : (d : DeviceID) (m : UniversalNonRealTimeMsg) (text entries : List ℕ) → contents (head_of m) (fields_of m text entries) ≡ none → Bytes text → ChannelsFit m
    → framed (settle (message_of d m text entries)) ≡ wire (summed (head_of m)) (front_of (device_byte d) m (length text) (length entries) ++ part_of m text entries)
unfolding settle wire
frame_parts d m text entries z y h =
    rw (device_held d, body_parts (device_byte d) m text entries z y h, with_sum_of (summed (head_of m)) (front_of (device_byte d) m (length text) (length entries) ++ part_of m text entries))
