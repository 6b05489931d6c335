-- A frame read into numbers: a reading as the reader has it, and its numbers at the start of the answer.
use Rattle.std.specs.Prelude.{◌≡◌, List, [], ◌∷◌, ℕ, length, Result, Ok, Err}
use Rattle.util.specs.Splice.{overwritten}
use Rattle.util.specs.Refusals.{number}
use Rattle.util.specs.declared.refusal.Refusal.{Refusal}
use Rattle.messages.specs.declared.file_reference.Kind.{Kind}
use Rattle.messages.specs.Messages.{Message, Answer, read_of}
use Rattle.reader.specs.declared.lent.Reading.{Reading}
use Rattle.reader.specs.Reading.{reading_number, ReadMet}
use Rattle.numbers_of_message.specs.Numbers.{numbers_of}

-- how many numbers the message has, the start and length of its name, URL or sample bytes in the frame, its lent places, then its numbers
abbrev pub reading_numbers : Result Reading Refusal → List ℕ
reading_numbers (Ok x) = length (numbers_of x.device x.m) ∷ x.from ∷ x.len ∷ x.places ∷ numbers_of x.device x.m
reading_numbers (Err r) = []

-- the number that 01 gives an answer: 0 where nothing is refused
abbrev pub read_number : Result (Unit {0}) Refusal → ℕ
read_number (Ok u) = 0
read_number (Err r) = number r

-- a reading whose answer without lent space is a, as the reader's contract has it, and its numbers at the start of the answer
pub record ReadTo (a : Answer Message) (n : ℕ) (frame dat dat' es es' answer answer' : List ℕ) : Type 0 where
  pub reading : Result Reading Refusal
  pub met : ReadMet reading a frame dat dat' es es'
  pub number_is : n ≡ reading_number reading
  pub answer_is : answer' ≡ overwritten (reading_numbers reading) answer

-- a reading for a kind
abbrev pub ReadFor : Kind → ℕ → List ℕ → List ℕ → List ℕ → List ℕ → List ℕ → List ℕ → List ℕ → Type 0
ReadFor k n frame dat dat' es es' answer answer' = ReadTo (read_of k frame) n frame dat dat' es es' answer answer'
