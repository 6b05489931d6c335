-- What the walk answers in numbers: as the walk does, or 65 for a kind that is neither.
use Rattle.std.specs.Prelude.{List, ℕ, Option, Some, None}
use Rattle.walk.specs.Answer.{walked_number, walked_value, answer, after}
use Rattle.messages.specs.declared.file_reference.Kind.{Kind}

-- the number of the refusal, 0 for none
abbrev pub walk_number : Option Kind → List ℕ → List ℕ → ℕ
walk_number None s ix = 65
walk_number (Some k) s ix = walked_number (answer k s ix)

-- the value besides: the number of frames
abbrev pub walk_value : Option Kind → List ℕ → List ℕ → ℕ
walk_value None s ix = 0
walk_value (Some k) s ix = walked_value (answer k s ix)

-- the index afterwards
abbrev pub walk_index : Option Kind → List ℕ → List ℕ → List ℕ
walk_index None s ix = ix
walk_index (Some k) s ix = after k s ix
