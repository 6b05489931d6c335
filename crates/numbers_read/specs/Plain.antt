-- Reading that needs no lent space: a message with no file data and no entries.
use Rattle.std.specs.Prelude.{◌≡◌, Bool, true, false, List, [], ◌∷◌, ℕ, Result}
use Rattle.util.specs.Splice.{overwritten}
use Rattle.util.specs.declared.refusal.Refusal.{Refusal}
use Rattle.messages.specs.Messages.{Message, Answer}
use Rattle.reader.specs.declared.lent.Reading.{Reading}
use Rattle.reader.specs.Reading.{reading_number, ReadMet}
use Rattle.numbers_read.specs.Read.{reading_numbers}

-- a message that is read whatever is lent, and its numbers at the start of the answer
pub record ReadAny (a : Answer Message) (frame answer answer' : List ℕ) : Type 0 where
  pub reading : Result Reading Refusal
  pub met : (dat es : List ℕ) → ReadMet reading a frame dat dat es es
  pub number_is : 0 ≡ reading_number reading
  pub answer_is : answer' ≡ overwritten (reading_numbers reading) answer

-- the numbers of a reading were put, or they were not and the answer is kept
abbrev pub Numbered : Bool → Result Reading Refusal → List ℕ → List ℕ → Type 0
Numbered true r answer answer' = answer' ≡ overwritten (reading_numbers r) answer
Numbered false r answer answer' = answer' ≡ answer

-- it was read, or it was not and the answer is kept
abbrev pub ReadPlain : Bool → Answer Message → List ℕ → List ℕ → List ℕ → Type 0
ReadPlain true a frame answer answer' = ReadAny a frame answer answer'
ReadPlain false a frame answer answer' = answer' ≡ answer

-- a frame of six bytes
abbrev pub six : ℕ → ℕ → ℕ → List ℕ
six d a n = 0xF0 ∷ 0x7E ∷ d ∷ a ∷ n ∷ 0xF7 ∷ []
