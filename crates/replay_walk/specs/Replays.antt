-- The cases of ops 3 and 65, and when their answers are right.
use Rattle.std.specs.Prelude.{◌≡◌, List, ℕ, ◌+◌, ◌*◌, ◌≤◌, length}
use Rattle.messages.specs.declared.file_reference.Kind.{Kind}
use Rattle.messages.specs.declared.file_reference.Kind.TheVariants.{Bank, WAV}
use Rattle.walk.specs.Answer.{Walked, walked_number, walked_value, WalkMet}
use Rattle.replay_vectors.specs.declared.cases.Case.{Case}
use Rattle.replay_vectors.specs.Verdicts.{number_at}

-- the number of a kind in a case
abbrev pub code : Kind → ℕ
code Bank = 0
code WAV = 1

-- an answer is that of a case: the number of its refusal, and its value
abbrev pub Answers : Walked → Case → Type 0
Answers w c = (walked_number w ≡ c.refusal) × (walked_value w ≡ c.value)

-- a walk over the text of a case answers as the case says
pub record Walks (c : Case) (k : Kind) (before after : List ℕ) : Type 0 where
  pub answer : Walked
  pub met : WalkMet answer k c.text.now before after
  pub right : Answers answer c

-- op 3: a kind, and how many whole pairs the index has, which has a number more
abbrev pub StreamCase : Case → Type 0
StreamCase c = (length c.numbers.now ≡ 2) × (number_at c.numbers.now 0 ≤ 1) × (number_at c.numbers.now 1 ≤ 70000)

pub record StreamRight (c : Case) : Type 0 where
  pub kind : Kind
  pub before : List ℕ
  pub after : List ℕ
  pub kind_is : number_at c.numbers.now 0 ≡ code kind
  pub room : length before ≡ number_at c.numbers.now 1 * 2 + 1
  pub walks : Walks c kind before after

-- op 65: a length of at most seven bytes, and how many streams of that length
abbrev pub ShortCase : Case → Type 0
ShortCase c = (length c.numbers.now ≡ 2) × (number_at c.numbers.now 0 ≤ 7)
