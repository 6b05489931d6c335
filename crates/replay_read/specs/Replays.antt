-- The cases of ops 2 and 4, and when their answers are right.
use Rattle.std.specs.Prelude.{◌≡◌, List, ℕ, ◌≤◌, eqb, length, take, drop, Result, Ok, Err}
use Rattle.util.specs.Pick.{pick}
use Rattle.util.specs.Refusals.{number}
use Rattle.util.specs.declared.refusal.Refusal.{Refusal}
use Rattle.messages.specs.declared.file_reference.Kind.{Kind}
use Rattle.messages.specs.declared.file_reference.Kind.TheVariants.{Bank, WAV}
use Rattle.messages.specs.declared.system_exclusive.IdentityReply.{IdentityReply}
use Rattle.messages.specs.Messages.{read_of}
use Rattle.messages.specs.Identity.{identity_of}
use Rattle.reader.specs.declared.lent.Reading.{Reading}
use Rattle.reader.specs.Reading.{ReadMet}
use Rattle.replay_vectors.specs.declared.cases.Case.{Case}
use Rattle.replay_vectors.specs.Verdicts.{number_at}

-- the number of a kind in a case
abbrev pub code : Kind → ℕ
code Bank = 0
code WAV = 1

-- the text of a reading, in lent places where the head is 07 02 and else a part of the frame, is the bytes of a case
abbrev pub IsText : Case → Reading → List ℕ → Type 0
IsText c r dat = pick (eqb (number_at c.out_numbers.now 0) 0x0702) (take r.places dat) (take r.len (drop r.from c.text.now)) ≡ c.bytes.now

-- an answer is that of a case: the number of its refusal, or its text
abbrev pub Answers : Result Reading Refusal → Case → List ℕ → Type 0
Answers (Ok r) c dat = (c.refusal ≡ 0) × IsText c r dat
Answers (Err e) c dat = number e ≡ c.refusal

-- a reading of the text of a case answers as the case says
pub record Reads (c : Case) (k : Kind) (dat dat' es es' : List ℕ) : Type 0 where
  pub answer : Result Reading Refusal
  pub met : ReadMet answer (read_of k c.text.now) c.text.now dat dat' es es'
  pub right : Answers answer c dat'

-- op 2: a kind, and how many places are lent for file data and for entries
abbrev pub FrameCase : Case → Type 0
FrameCase c = (length c.numbers.now ≡ 3) × (number_at c.numbers.now 0 ≤ 1) × (number_at c.numbers.now 1 ≤ 70000) × (number_at c.numbers.now 2 ≤ 70000)

pub record FrameRight (c : Case) : Type 0 where
  pub kind : Kind
  pub dat : List ℕ
  pub dat' : List ℕ
  pub es : List ℕ
  pub es' : List ℕ
  pub kind_is : number_at c.numbers.now 0 ≡ code kind
  pub data_room : length dat ≡ number_at c.numbers.now 1
  pub entries_room : length es ≡ number_at c.numbers.now 2
  pub reads : Reads c kind dat dat' es es'

-- op 4: the bytes of a reply, and the number of their refusal
abbrev pub Identifies : Result IdentityReply Refusal → Case → Type 0
Identifies (Ok r) c = c.refusal ≡ 0
Identifies (Err e) c = number e ≡ c.refusal

abbrev pub IdentityRight : Case → Type 0
IdentityRight c = Identifies (identity_of c.text.now) c
