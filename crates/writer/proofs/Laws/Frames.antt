-- The body of a message by its front and its part, a clause for each head.
-- Assumes nothing.
use mathlib.Core.Path.{◌≡◌, refl}
use mathlib.Core.List.{List, ◌∷◌, ◌++◌}
use Prim.Native.Nat.{ℕ}
use Rattle.util.specs.Groups.{groups, held}
use Rattle.messages.specs.declared.head.Head.{Head}
use Rattle.messages.specs.declared.sample_dump.LoopNumber.TheVariants.{RequestAll, DeleteAll}
use Rattle.messages.specs.declared.sample_dump.SampleDumpMsg.{SampleDumpMsg}
use Rattle.messages.specs.declared.sample_dump.SampleDumpMsg.TheVariants as sample
use Rattle.messages.specs.declared.sample_dump.ExtendedSampleDumpMsg.{ExtendedSampleDumpMsg}
use Rattle.messages.specs.declared.sample_dump.ExtendedSampleDumpMsg.TheVariants as extended
use Rattle.messages.specs.Layouts.{Fields, form, code}
use Rattle.messages.specs.MessageOf.{head_sample, fields_sample, head_extended, fields_extended}
use Rattle.write_fronts.specs.Fronts.{front_sample, front_extended}
use Rattle.write_lists.specs.Parts.{part_sample, part_extended}
use Rattle.writer.proofs.Laws.Fronts.{format_same, loop_held, loop_bytes, extended_loop_bytes, loop_low, extended_loop_low}

-- 7E, the device's byte v, the head and its fields as they are settled
abbrev pub body_of : ℕ → (h : Head) → Fields h → List ℕ
body_of v h f = (0x7E ∷ groups 1 (held 1 v) ++ code h) ++ (form h).bytes ((form h).settle f)

pub sample_parts : (v : ℕ) (m : SampleDumpMsg) (text : List ℕ)
    → body_of v (head_sample m) (fields_sample m text) ≡ front_sample v m ++ part_sample m text
sample_parts v (sample.Header n f p l s e t) text = rw (format_same f, loop_bytes t, loop_low t)
sample_parts v (sample.Packet c) text = refl
sample_parts v (sample.Request n) text = refl
sample_parts v (sample.LoopPointTransmission n i t s e) text = rw (loop_held DeleteAll refl i, loop_bytes t, loop_low t)
sample_parts v (sample.LoopPointsRequest n i) text = rw (loop_held RequestAll refl i)

pub extended_parts : (v : ℕ) (m : ExtendedSampleDumpMsg) (text : List ℕ)
    → body_of v (head_extended m) (fields_extended m text) ≡ front_extended v m ++ part_extended m text
extended_parts v (extended.SampleName n) text = refl
extended_parts v (extended.SampleNameRequest n) text = refl
extended_parts v (extended.Header n f w r l s e t c) text = rw (format_same f, extended_loop_bytes t, extended_loop_low t)
extended_parts v (extended.LoopPointTransmission n i t s e) text = rw (loop_held DeleteAll refl i, extended_loop_bytes t, extended_loop_low t)
extended_parts v (extended.LoopPointsRequest n i) text = rw (loop_held RequestAll refl i)
