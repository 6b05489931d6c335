-- What writing promises, as propositions: the theorems of proofs/ have these types.
use Rattle.std.specs.Prelude.{◌≡◌, ◌↔◌, true, List, ℕ, ◌+◌, ◌<◌, length, take, drop}
use Rattle.messages.specs.declared.file_reference.Kind.{Kind}
use Rattle.messages.specs.Layouts.{reads}
use Rattle.messages.specs.Messages.{Message, given, refusal_number, settle, write_of, Settled, read_of}
use Rattle.messages.specs.Contents.{contents}
use Rattle.messages.specs.Promises.{IsFrame}
use Rattle.writer.specs.Write.{written_number, written_value, written_at, output_after, length_at}

-- n bytes of the output stand at the place: the frame of the settled form, which is settled, so that they read back as it; the rest is as it was
pub record Placed (m : Message) (out after : List ℕ) (place n : ℕ) : Type 0 where
  pub settled : Settled (settle m)
  pub frame : IsFrame (settle m) (take n (drop place after))
  pub back : (k : Kind) → reads k m.head ≡ true → read_of k (take n (drop place after)) ≡ given (settle m)
  pub front_kept : take place after ≡ take place out
  pub rest_kept : drop (place + n) after ≡ drop (place + n) out
  pub same_length : length after ≡ length out

-- the number that writing m at a place of so many bytes answers, and the value besides
abbrev pub number_at : Message → ℕ → ℕ → ℕ
number_at m size place = written_number (written_at (write_of m) size place)

abbrev pub value_at : Message → ℕ → ℕ → ℕ
value_at m size place = written_value (written_at (write_of m) size place)

-- "Where nothing is refused the number is 0: the writer answers the frame's length", and the frame stands at the place
abbrev pub WritesPlaced : Type 0
WritesPlaced =
    (m : Message) (out : List ℕ) (place : ℕ) → number_at m (length out) place ≡ 0
    → Placed m out (output_after (write_of m) out place) place (value_at m (length out) place)

-- where it refuses, the value is 0 and the output is as it was
abbrev pub RefusesUnchanged : Type 0
RefusesUnchanged =
    (m : Message) (out : List ℕ) (place : ℕ) → (number_at m (length out) place ≡ 0 → ⊥)
    → (value_at m (length out) place ≡ 0) × (output_after (write_of m) out place ≡ out)

-- rows 1 to 4, whatever the output: every number but 0 and SPACE's is given exactly where the contents say it
abbrev pub ContentsExactly : Type 0
ContentsExactly =
    (m : Message) (size place n : ℕ) → (n ≡ 0 → ⊥) → (n ≡ 5 → ⊥)
    → (number_at m size place ≡ n) ↔ (refusal_number (contents m.head m.fields) ≡ n)

-- row 5, SPACE: an admitted message whose frame would end past the output's end
abbrev pub SpaceExactly : Type 0
SpaceExactly =
    (m : Message) (size place : ℕ) → (number_at m size place ≡ 5) ↔ ((bs : List ℕ) × (IsFrame m bs × (size < place + length bs)))

-- the length that is told before writing: refused as the contents say, with 0 besides, and else the value of every writing that is not refused
pub record LengthOf (m : Message) : Type 0 where
  pub refused_as : written_number (length_at (write_of m)) ≡ refusal_number (contents m.head m.fields)
  pub zero_besides : (written_number (length_at (write_of m)) ≡ 0 → ⊥) → written_value (length_at (write_of m)) ≡ 0
  pub as_written : (size place : ℕ) → number_at m size place ≡ 0 → written_value (length_at (write_of m)) ≡ value_at m size place

abbrev pub LengthTold : Type 0
LengthTold = (m : Message) → LengthOf m
