-- The cases of ops 1, 64 and 66, and when their answers are right.
use Rattle.std.specs.Prelude.{◌≡◌, List, ℕ, ◌≤◌, ◌⊎◌, leb, length, map, Some, None, Result, Ok}
use Rattle.numbers_to_message.specs.Types.{Made}
use Rattle.numbers_to_message.specs.Table.{message_of_numbers}
use Rattle.util.specs.Pick.{pick}
use Rattle.util.specs.declared.refusal.Refusal.{Refusal}
use Rattle.messages.specs.declared.system_exclusive.DeviceID.{DeviceID}
use Rattle.messages.specs.declared.system_exclusive.UniversalNonRealTimeMsg.{UniversalNonRealTimeMsg}
use Rattle.messages.specs.Messages.{write_of}
use Rattle.messages.specs.MessageOf.{message_of}
use Rattle.writer.specs.Write.{written_at, written_number}
use Rattle.replay_vectors.specs.declared.cases.Case.{Case}
use Rattle.replay_vectors.specs.Little.{little8}

-- the answer is a frame, whose length is the answer value, or a refusal and no bytes
abbrev pub IsWrite : Case → Type 0
IsWrite c = (length c.out_numbers.now ≡ 0) × (length c.out_entries.now ≡ 0) × (c.value ≡ length c.bytes.now) × ((c.refusal ≡ 0) ⊎ (length c.bytes.now ≡ 0))

-- the numbers of a list of eight bytes each
abbrev pub numbers_in : List (List ℕ) → List ℕ
numbers_in l = map (λ b. little8 b 0) l

-- the device and the message that its numbers are, of which there are at most sixteen
abbrev pub message_in : Case → Made
message_in c = pick (leb (length c.numbers.now) 16) (message_of_numbers (numbers_in c.numbers.now)) None

-- ops 1 and 66: at most 65,536 entries, and the numbers of a message
abbrev pub WriteCase : Case → Type 0
WriteCase c = IsWrite c × (length c.entries.now ≤ 65536) × (message_in c ≡ None → ⊥)

-- the answer to a write of a message, with the text of a case, at a place of an output of so many bytes
abbrev pub answer_to : Case → DeviceID → UniversalNonRealTimeMsg → List ℕ → ℕ → ℕ → Result ℕ Refusal
answer_to c device m entries size place = written_at (write_of (message_of device m c.text.now entries)) size place

-- a message is answered as a case says: with the frame's length where there is just enough room, or with the refusal where there are 4,093 bytes of room
pub record Written (c : Case) (device : DeviceID) (m : UniversalNonRealTimeMsg) (entries : List ℕ) : Type 0 where
  pub frame : c.refusal ≡ 0 → answer_to c device m entries (length c.bytes.now) 0 ≡ Ok (length c.bytes.now)
  pub refusal : (c.refusal ≡ 0 → ⊥) → written_number (answer_to c device m entries 4096 3) ≡ c.refusal

-- op 1: the message of its numbers is
pub record WriteRight (c : Case) : Type 0 where
  pub device : DeviceID
  pub m : UniversalNonRealTimeMsg
  pub said : message_in c ≡ Some (device, m)
  pub written : Written c device m (numbers_in c.entries.now)

-- op 64: no refusal, and as many numbers as the answer value says
abbrev pub StretchesRight : Case → Type 0
StretchesRight c = (c.refusal ≡ 0) × (c.value ≡ length c.out_entries.now)
