-- The body of a message by its front and its part: identity, file dumps, tunings and General MIDI.
-- Assumes nothing.
use mathlib.Core.Path.{◌≡◌, refl}
use mathlib.Core.List.{List, [], ◌++◌}
use Prim.Native.Nat.{ℕ, ◌<◌, ◌/◌, ◌%◌, min}
use native.Mathlib.Omega.{arith}
use Rattle.util.specs.Groups.{held}
use Rattle.util.specs.Packing.{Bytes}
use Rattle.messages.specs.declared.head.Head.TheVariants as head
use Rattle.messages.specs.declared.system_exclusive.ManufacturerID.{ManufacturerID}
use Rattle.messages.specs.declared.system_exclusive.ManufacturerID.TheVariants.{OneByte, Extended}
use Rattle.messages.specs.declared.file_dump.FileDumpMsg.{FileDumpMsg}
use Rattle.messages.specs.declared.file_dump.FileDumpMsg.TheVariants as file
use Rattle.std.specs.Prelude.{Option, Some, None}
use Rattle.messages.specs.declared.general_midi.GeneralMidi.{GeneralMidi}
use Rattle.messages.specs.declared.general_midi.GeneralMidi.TheVariants.{GM1, Off, GM2}
use Rattle.messages.specs.format.Core.{written}
use Rattle.messages.specs.format.Packed.{held_bytes_same}
use Rattle.messages.specs.Fields.{name_of_16, type_chars, Four}
use Rattle.messages.specs.Structures.{AfterMaker, reply}
use Rattle.messages.specs.MessageOf.{head_file, fields_file, head_request, fields_request, head_keys, fields_keys, head_midi, fields_midi}
use Rattle.write_fronts.specs.Fronts.{front_reply, front_file, front_request, front_keys, front_midi}
use Rattle.write_lists.specs.Parts.{part_file, part_keys}
use Rattle.writer.proofs.Laws.Fronts.{maker_same, device_held, letters_same}
use Rattle.writer.proofs.Laws.Frames.{body_of}

pub reply_parts : (v : ℕ) (m : ManufacturerID) (x : AfterMaker) → body_of v head.IdentityReply (reply m x) ≡ front_reply v (reply m x) ++ []
reply_parts v (OneByte b) x = rw (maker_same b)
reply_parts v (Extended a b) x = refl

-- the four letters of a file type, as they are held
abbrev held_four : Four → Four
held_four x = (held 1 x.0, (held 1 x.1.0, (held 1 x.1.1.0, held 1 x.1.1.1)))

pub file_parts : (v : ℕ) (m : FileDumpMsg) (text : List ℕ) → Bytes text
    → body_of v (head_file m) (fields_file m text) ≡ front_file v m ++ part_file m text
file_parts v (file.Header s t l) text y = rw (device_held s, letters_same (held_four (type_chars t)))
file_parts v (file.Packet c) text y = rw (held_bytes_same text y)
file_parts v (file.Request r t) text y = rw (device_held r, letters_same (held_four (type_chars t)))

pub request_parts : (v : ℕ) (b : Option ℕ) (p : ℕ) → body_of v (head_request b) (fields_request b p) ≡ front_request v b p ++ []
request_parts v None p = refl
request_parts v (Some b) p = refl

pub keys_parts : (v : ℕ) (b : Option ℕ) (p : ℕ) (text entries : List ℕ)
    → body_of v (head_keys b) (fields_keys b p text entries) ≡ front_keys v b p ++ (written name_of_16 text ++ part_keys entries)
keys_parts v None p text entries = refl
keys_parts v (Some b) p text entries = refl

pub midi_parts : (v : ℕ) (g : GeneralMidi) → body_of v (head_midi g) (fields_midi g) ≡ front_midi v g ++ []
midi_parts v GM1 = refl
midi_parts v Off = refl
midi_parts v GM2 = refl

-- the three groups of a set of channels, highest first, one by one
pub channels_same : (s : ℕ) → s < 65536
    → (min (s / 16384) 127 % 128 ≡ min s 65535 / 16384) × (min (s % 16384 / 128) 127 % 128 ≡ min s 65535 % 16384 / 128) × (min (s % 128) 127 % 128 ≡ min s 65535 % 16384 % 128 / 1)
channels_same s h = (omega arith, omega arith, omega arith)
