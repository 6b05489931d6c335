-- Standard output, gathered: what an output holds, and what putting a text to it means.
use Rattle.std.specs.Prelude.{◌≡◌, Bool, true, false, List, [], ◌++◌, ℕ, ◌+◌, ◌≤◌, ◌<◌, eqb, length}
use Rattle.util.specs.Pick.{pick}
use Rattle.desk_print.specs.declared.output.Stream.{Stream}
use Rattle.desk_print.specs.declared.output.Stream.TheVariants.{Stdout, Stderr}

-- the open file of a number: 1 is standard output, any other standard error
abbrev pub stream_of : ℕ → Stream
stream_of n = pick (eqb n 1) Stdout Stderr

-- the bytes that are gathered and not yet written out, whether a write has failed, and the file of error lines
pub record Gathering : Type 0 where
  pub text : List ℕ
  pub is_failed : Bool
  pub errors : Stream

-- the bytes that are gathered and not yet written out
abbrev pub gathered : Gathering → List ℕ
gathered o = o.text

-- how many bytes are gathered
abbrev pub count_of : Gathering → ℕ
count_of o = length o.text

-- no write has failed so far
abbrev pub Sound : Gathering → Type 0
Sound o = o.is_failed ≡ false

-- nothing is gathered, and no write has failed
pub record Fresh (o : Gathering) : Type 0 where
  pub none : count_of o ≡ 0
  pub sound : Sound o

-- a text is put: unless a write has failed, what was gathered and the text behind it are, in order, the bytes that left the room to be written and those that are gathered now (what a write does with them no contract says)
pub record Put (before : Gathering) (text : List ℕ) (after : Gathering) : Type 0 where
  pub written : List ℕ
  pub whole : Sound after → written ++ gathered after ≡ gathered before ++ text
  pub sound : Sound after → Sound before

-- a write has failed, which is remembered
pub record Failed (before after : Gathering) : Type 0 where
  pub flag : after.is_failed ≡ true
  pub text : after.text ≡ before.text
  pub errors : after.errors ≡ before.errors

-- a text is gathered behind what is gathered, without a write
pub record Gathered (before : Gathering) (text : List ℕ) (after : Gathering) : Type 0 where
  pub joined : gathered after ≡ gathered before ++ text
  pub flag : after.is_failed ≡ before.is_failed
  pub errors : after.errors ≡ before.errors

-- what an attempt to gather a text gave: the text is gathered, or nothing is altered
pub record Tried (before : Gathering) (text : List ℕ) (after : Gathering) (r : Bool) : Type 0 where
  pub done : r ≡ true → Gathered before text after
  pub fits : r ≡ true → count_of before + length text ≤ 65535
  pub refused : r ≡ false → after ≡ before
  pub full : r ≡ false → 65535 < count_of before + length text

-- all that was gathered has left the room to be written, unless a write has failed; nothing is gathered now
pub record Flushed (before after : Gathering) : Type 0 where
  pub put : Put before [] after
  pub none : count_of after ≡ 0
  pub empty : gathered after ≡ []

-- a text is put: gathered where there is room, or else in an empty room, unless it is longer than the room
pub record Added (before : Gathering) (text : List ℕ) (after : Gathering) : Type 0 where
  pub put : Put before text after
  pub room : count_of before + length text ≤ 65535 → Gathered before text after
  pub next : 65535 < count_of before + length text → length text ≤ 65535 → gathered after ≡ text
