-- The frame as the writer puts it together, and the contents of file headers and requests.
use Rattle.std.specs.Prelude.{Bool, true, false, Result, Ok, Err, List, [], ◌∷◌, ◌++◌, ◌≡◌, ℕ, ◌≤◌, length}
use Rattle.std.proofs.Math.Option.{Option, none, some}
use Rattle.util.specs.Limits.{most_name}
use Rattle.util.specs.Checksum.{checksum}
use Rattle.util.specs.declared.refusal.Refusal.{Refusal}
use Rattle.messages.specs.declared.system_exclusive.DeviceID.{DeviceID}
use Rattle.messages.specs.declared.system_exclusive.UniversalNonRealTimeMsg.{UniversalNonRealTimeMsg}
use Rattle.messages.specs.declared.file_dump.FileType.{FileType}
use Rattle.messages.specs.Refusals.{least}
use Rattle.messages.specs.Fields.{device_byte, high, type_bytes}
use Rattle.messages.specs.Layouts.{summed}
use Rattle.messages.specs.Contents.{too_large, longer}
use Rattle.messages.specs.MessageOf.{head_of}
use Rattle.write_fronts.specs.Fronts.{front_of}
use Rattle.write_fronts.specs.Sizes.{front_size}
use Rattle.write_lists.specs.Parts.{part_of}
use Rattle.writer.specs.declared.Sizes.{Sizes}

-- the checksum of bytes, where there is one
abbrev pub sum_of : Bool → List ℕ → List ℕ
sum_of true b = checksum b ∷ []
sum_of false b = []

-- F0, the bytes, their checksum where there is one, F7
unfoldable pub wire : Bool → List ℕ → List ℕ
wire b l = (0xF0 ∷ l) ++ sum_of b l ++ (0xF7 ∷ [])

-- the frame by the message's front and its part
unfoldable pub frame_of : DeviceID → UniversalNonRealTimeMsg → List ℕ → List ℕ → List ℕ
frame_of d m text entries = wire (summed (head_of m)) (front_of (device_byte d) m (length text) (length entries) ++ part_of m text entries)

-- the refusal of a file header, as `contents` has it
abbrev pub header_contents : FileType → ℕ → List ℕ → Option Refusal
header_contents t n name = least (high (type_bytes t)) (least (too_large n) (least (longer most_name name) (high name)))

-- the refusal of a file request, as `contents` has it
abbrev pub request_contents : FileType → List ℕ → Option Refusal
request_contents t name = least (high (type_bytes t)) (least (longer most_name name) (high name))

-- a message with the text and the entries lent beside it
pub record Lent : Type 0 where
  pub m : UniversalNonRealTimeMsg
  pub text : List ℕ
  pub entries : List ℕ

-- a message with what is lent beside it, or the refusal of its contents
abbrev pub lent : UniversalNonRealTimeMsg → List ℕ → List ℕ → Option Refusal → Result Lent Refusal
lent m text entries none = Ok (record { m = m; text = text; entries = entries })
lent m text entries (some r) = Err r

-- the sizes of the frame of a message whose contents are admitted
pub record SizesOf (s : Sizes) (m : UniversalNonRealTimeMsg) (text entries : List ℕ) : Type 0 where
  pub front_is : s.front ≡ front_size m
  pub part_is : s.part ≡ length (part_of m text entries)
  pub sum_is : s.sum ≡ summed (head_of m)
  pub front_few : s.front ≤ 32
  pub part_few : s.part ≤ 2048
