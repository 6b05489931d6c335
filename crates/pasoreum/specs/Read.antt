-- What reading answers in numbers: as `numbers_read` does, or 65 for a kind that is neither, or 66 for an answer of fewer than 20 places.
use Rattle.std.specs.Prelude.{◌≡◌, Bool, true, false, List, ℕ, Option, Some, None}
use Rattle.numbers_read.specs.Read.{ReadFor}
use Rattle.messages.specs.declared.file_reference.Kind.{Kind}

-- a refusal of the boundary's own: all that was lent keeps its contents
pub record Kept (refusal n : ℕ) (dat dat' es es' answer answer' : List ℕ) : Type 0 where
  pub number_is : n ≡ refusal
  pub data_is : dat' ≡ dat
  pub entries_are : es' ≡ es
  pub answer_is : answer' ≡ answer

-- by the kind that was named, and whether the answer is short
abbrev pub ReadAs : Option Kind → Bool → ℕ → List ℕ → List ℕ → List ℕ → List ℕ → List ℕ → List ℕ → List ℕ → Type 0
ReadAs None short n frame dat dat' es es' answer answer' = Kept 65 n dat dat' es es' answer answer'
ReadAs (Some k) true n frame dat dat' es es' answer answer' = Kept 66 n dat dat' es es' answer answer'
ReadAs (Some k) false n frame dat dat' es es' answer answer' = ReadFor k n frame dat dat' es es' answer answer'
