-- What writing answers, and what the output then holds (01, rows 1 to 5).
use Rattle.std.specs.Prelude.{Bool, false, List, ℕ, ◌-◌, leb, length, Result, Ok, Err}
use Rattle.std.proofs.Math.Option.{Option, none, some}
use Rattle.util.specs.Pick.{pick}
use Rattle.util.specs.Splice.{splice}
use Rattle.util.specs.declared.refusal.Refusal.{Refusal}
use Rattle.util.specs.declared.refusal.Refusal.TheVariants.{Space}
use Rattle.util.specs.Refusals.{number}
use Rattle.messages.specs.Messages.{Answer, refused, given}

-- the number that an answer of the writer carries, and its value
abbrev pub written_number : Result ℕ Refusal → ℕ
written_number (Ok n) = 0
written_number (Err r) = number r

abbrev pub written_value : Result ℕ Refusal → ℕ
written_value (Ok n) = n
written_value (Err r) = 0

-- whether n bytes fit from the place on: not "place past the end, or frame longer than what follows it"
abbrev pub has_room : ℕ → ℕ → ℕ → Bool
has_room size place n = pick (leb place size) (leb n (size - place)) false

-- the answer for an output of so many bytes: the frame's length, or a refusal; 5 SPACE after the contents
abbrev pub written_at : Answer (List ℕ) → ℕ → ℕ → Result ℕ Refusal
written_at (refused r) size place = Err r
written_at (given bs) size place = pick (has_room size place (length bs)) (Ok (length bs)) (Err Space)

-- the output afterwards: the frame at the place, or unchanged under a refusal
abbrev pub output_after : Answer (List ℕ) → List ℕ → ℕ → List ℕ
output_after (refused r) out place = out
output_after (given bs) out place = pick (has_room (length out) place (length bs)) (splice out place bs) out

-- the length of what is written, told before it is
abbrev pub length_at : Answer (List ℕ) → Result ℕ Refusal
length_at (refused r) = Err r
length_at (given bs) = Ok (length bs)

-- the refusal of contents, as the code tells it
abbrev pub told : Option Refusal → Result (Unit {0}) Refusal
told none = Ok tt
told (some r) = Err r
