-- The frame of a scale tuning dump of two bytes.
-- Assumes nothing.
use mathlib.Core.Path.{◌≡◌, ap, ◌∙◌}
use mathlib.Core.Bool.{true, false}
use mathlib.Core.List.{List, [], ◌∷◌, ◌++◌}
use Prim.Native.Nat.{ℕ}
use native.Mathlib.Omega.{arith}
use lib.ListN.{length, length-append}
use Rattle.util.specs.Groups.{seven}
use Rattle.util.specs.Options.{unless}
use Rattle.util.specs.Packing.{Bytes}
use Rattle.util.specs.declared.refusal.Refusal.TheVariants.{High}
use Rattle.messages.specs.declared.system_exclusive.DeviceID.{DeviceID}
use Rattle.messages.specs.declared.system_exclusive.UniversalNonRealTimeMsg.TheVariants as msg
use Rattle.std.specs.Prelude.{ℤ}
use Rattle.messages.specs.format.Core.{written}
use Rattle.messages.specs.Fields.{device_byte, name_of_16}
use Rattle.messages.specs.Structures.{scale_2}
use Rattle.messages.specs.Messages.{refused, given, write_of}
use Rattle.write_fronts.specs.Fronts.{start_2}
use Rattle.write_lists.proofs.Laws.Sizes.{length_name, length_scale_2}
use Rattle.writer.specs.Frames.{wire, frame_of}
use Rattle.writer.proofs.Laws.Sums.{wire_length}
use Rattle.writer.proofs.Laws.Answers.{write_frame, write_refused}
use Rattle.numbers_write.specs.Messages.{scale_message}

-- the front: 7E, the device's byte, 08 06, the bank and the program
abbrev pub scale_front : ℕ → ℕ → ℕ → List ℕ
scale_front d b p = start_2 d 0x08 0x06 ((1, b) ∷ (1, p) ∷ [])

-- the part: the name and the scale
abbrev pub scale_part : List ℤ → List ℕ → List ℕ
scale_part s text = written name_of_16 text ++ written scale_2 s

-- the frame
abbrev pub scale_frame : ℕ → ℕ → ℕ → List ℤ → List ℕ → List ℕ
scale_frame d b p s text = wire true (scale_front d b p ++ scale_part s text)

-- the part has forty bytes
pub forty : (s : List ℤ) (text : List ℕ) → length (scale_part s text) ≡ 40
forty s text = length-append (written name_of_16 text) (written scale_2 s) ∙ omega (arith, length_name text, length_scale_2 s)

-- the frame has forty-nine
pub forty_nine : (d b p : ℕ) (s : List ℤ) (text : List ℕ) → length (scale_frame d b p s text) ≡ 49
forty_nine d b p s text = wire_length true (scale_front d b p) (scale_part s text) ∙ omega (arith, forty s text)

-- what is written where every byte of the name is below 128
pub scale_given : (d : DeviceID) (b p : ℕ) (s : List ℤ) (text : List ℕ) → seven text ≡ true → Bytes text
    → write_of (scale_message d b p s text) ≡ given (scale_frame (device_byte d) b p s text)
unfolding frame_of
scale_given d b p s text e y =
    write_frame d (msg.ScaleTuningDump2Byte (record { tuning_bank_num = b; tuning_program_num = p; tuning = s })) text [] (ap (unless High) e) y tt

-- where one is not, HIGH
pub scale_refused : (d : DeviceID) (b p : ℕ) (s : List ℤ) (text : List ℕ) → seven text ≡ false → write_of (scale_message d b p s text) ≡ refused High
scale_refused d b p s text e =
    write_refused d (msg.ScaleTuningDump2Byte (record { tuning_bank_num = b; tuning_program_num = p; tuning = s })) text [] High (ap (unless High) e)
