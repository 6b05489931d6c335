-- What the boundary promises, as propositions over the contract of `pasoreum_read`: the theorems of proofs/ have these types.
use Rattle.std.specs.Prelude.{◌≡◌, Bool, List, ℕ, Option, Some, length, take, drop, get_or}
use Rattle.messages.specs.declared.file_reference.Kind.{Kind}
use Rattle.messages.specs.declared.system_exclusive.DeviceID.{DeviceID}
use Rattle.messages.specs.declared.system_exclusive.UniversalNonRealTimeMsg.{UniversalNonRealTimeMsg}
use Rattle.messages.specs.Messages.{Message, given, read_of, text, text_start, places}
use Rattle.messages.specs.MessageOf.{message_of}
use Rattle.messages.specs.Promises.{IsFrame, TextStands}
use Rattle.numbers_to_message.specs.Table.{message_of_numbers}
use Rattle.read_places.specs.Found.{text_from}
use Rattle.writer.specs.Write.{written_at, written_number, written_value, output_after}
use Rattle.numbers_read.specs.Read.{ReadFor}
use Rattle.numbers_write.specs.Write.{write_number, write_value, write_output}
use Rattle.pasoreum.specs.Read.{ReadAs}

-- the message's numbers in an answer
abbrev pub numbers_in : List ℕ → List ℕ
numbers_in a = take (get_or a 0 0) (drop 4 a)

-- the part of the frame that an answer names
abbrev pub named_text : List ℕ → List ℕ → List ℕ
named_text frame a = take (get_or a 2 0) (drop (get_or a 1 0) frame)

-- the lent places that an answer names
abbrev pub places_in : List ℕ → List ℕ → List ℕ
places_in lent a = take (get_or a 3 0) lent

-- the message that the numbers of an answer say, beside the part of the frame and the lent places that it names
pub record Says (frame dat es a : List ℕ) : Type 0 where
  pub device : DeviceID
  pub m : UniversalNonRealTimeMsg
  pub numbers_say : message_of_numbers (numbers_in a) ≡ Some (device, m)

abbrev pub text_said : {frame dat es a : List ℕ} → Says frame dat es a → List ℕ
text_said {frame} {dat} {es} {a} s = text_from s.m (named_text frame a) (places_in dat a)

abbrev pub message_said : {frame dat es a : List ℕ} → Says frame dat es a → Message
message_said {frame} {dat} {es} {a} s = message_of s.device s.m (text_said s) (places_in es a)

-- a frame that is read: the numbers of the answer say the message whose frame it is
abbrev pub NumbersRead : Type 0
NumbersRead =
    (k : Kind) (frame dat dat' es es' answer answer' : List ℕ) → ReadFor k 0 frame dat dat' es es' answer answer'
    → (s : Says frame dat' es' answer') × ((read_of k frame ≡ given (message_said s)) × IsFrame (message_said s) frame)

-- "Names, URLs and sample bytes come back as parts of the frame lent": the second and third number of the answer are where those of the message
-- begin in the frame and how many they are, both 0 where it has none; the fourth is how many lent places its file data or entries take, 0 for none
pub record PartNamed (frame answer : List ℕ) (m : Message) : Type 0 where
  pub start_is : get_or answer 1 0 ≡ text_start m
  pub length_is : get_or answer 2 0 ≡ length (text m)
  pub places_are : get_or answer 3 0 ≡ places m
  pub stands : TextStands m frame

abbrev pub TextRead : Type 0
TextRead =
    (k : Kind) (frame dat dat' es es' answer answer' : List ℕ) (m : Message) → ReadFor k 0 frame dat dat' es es' answer answer'
    → read_of k frame ≡ given m → PartNamed frame answer' m

-- and given to writing, they are written as that frame
abbrev pub WrittenAgain : Type 0
WrittenAgain =
    (k : Kind) (frame dat dat' es es' answer answer' out : List ℕ) (place : ℕ) → ReadFor k 0 frame dat dat' es es' answer answer'
    → (s : Says frame dat' es' answer')
    × ((write_number (numbers_in answer') (text_said s) (places_in es' answer') out place ≡ written_number (written_at (given frame) (length out) place))
    × ((write_value (numbers_in answer') (text_said s) (places_in es' answer') out place ≡ written_value (written_at (given frame) (length out) place))
    × (write_output (numbers_in answer') (text_said s) (places_in es' answer') out place ≡ output_after (given frame) out place)))

-- a call of `pasoreum_read` has one answer, and one way in which it leaves what it was lent
abbrev pub OneRead : Type 0
OneRead =
    (k : Option Kind) (short : Bool) (n m : ℕ) (frame dat dat' dat'' es es' es'' answer answer' answer'' : List ℕ)
    → ReadAs k short n frame dat dat' es es' answer answer' → ReadAs k short m frame dat dat'' es es'' answer answer''
    → (n ≡ m) × (dat' ≡ dat'') × (es' ≡ es'') × (answer' ≡ answer'')
