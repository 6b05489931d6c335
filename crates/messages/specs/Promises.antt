-- What the definitions promise, as propositions: the theorems of proofs/ have these types.
use Rattle.std.specs.Prelude.{◌≡◌, ◌↔◌, Ok, true, List, [], ◌∷◌, ◌++◌, ℕ, ◌+◌, ◌<◌, ◌≤◌, Float, length, get_or, take, drop}
use Rattle.std.proofs.Math.Option.{none, some}
use Rattle.util.specs.Groups.{Seven}
use Rattle.rates.specs.Rate.{split_of, numbers_of}
use Rattle.messages.specs.declared.head.Head.TheVariants as head
use Rattle.messages.specs.Types.{Head, Kind, DeviceID, ExtendedSampleDumpMsg, ExtendedLoopType, IdentityReply}
use Rattle.messages.specs.declared.system_exclusive.UniversalNonRealTimeMsg.TheVariants.{ExtendedSampleDump}
use Rattle.messages.specs.Layouts.{form, code, summed, reads}
use Rattle.messages.specs.Messages.{Message, given, answer_number, refusal_number, refusal, settle, write_of, Settled, SettledFor, read_of, text, text_start}
use Rattle.messages.specs.Contents.{contents}
use Rattle.messages.specs.Identity.{rows, first_number, reply_in, identity_of, identity_number, identity_value}
use Rattle.messages.specs.MessageOf.{message_of}
use Rattle.messages.specs.Header.{header_of, header_number}
use Rattle.messages.specs.Walk.{Listed, Rising, since, frames}

-- bs is the frame of m
abbrev pub IsFrame : Message → List ℕ → Type 0
IsFrame m bs = write_of m ≡ given bs

-- bs is the frame of some message settled for the kind
pub record IsFrameFor (k : Kind) (bs : List ℕ) : Type 0 where
  pub message : Message
  pub settled : SettledFor k message
  pub frame : IsFrame message bs

-- ---- writing

-- "each frame is the one that the written layouts define": what is written is the frame of the settled form, which is settled
abbrev pub WritesSettled : Type 0
WritesSettled = (m : Message) (bs : List ℕ) → IsFrame m bs → Settled (settle m) × IsFrame (settle m) bs

-- an admitted message has a frame
abbrev pub AdmittedWritten : Type 0
AdmittedWritten = (m : Message) → refusal m ≡ none → (bs : List ℕ) × IsFrame m bs

-- rows 1 to 4: a message is refused as its contents say
abbrev pub RefusedExactly : Type 0
RefusedExactly = (m : Message) → answer_number (write_of m) ≡ refusal_number (contents m.head m.fields)

-- "Where nothing is refused the number is 0": for the messages that are admitted, and no others
abbrev pub WrittenZero : Type 0
WrittenZero = (m : Message) → (answer_number (write_of m) ≡ 0) ↔ (refusal m ≡ none)

-- six bytes or more: F0, bytes of at most 127, F7
pub record Shaped (bs : List ℕ) : Type 0 where
  pub mid : List ℕ
  pub is : 0xF0 ∷ (mid ++ (0xF7 ∷ [])) ≡ bs
  pub low : Seven mid
  pub long : 6 ≤ length bs

-- every frame begins with F0, ends with F7 and is below 128 between
abbrev pub FrameShaped : Type 0
FrameShaped = (m : Message) (bs : List ℕ) → IsFrame m bs → Shaped bs

-- ---- reading

-- reading gives m exactly when m is settled for the kind and its frame is these bytes
abbrev pub ReadExactly : Type 0
ReadExactly = (k : Kind) (bs : List ℕ) (m : Message) → (read_of k bs ≡ given m) ↔ (SettledFor k m × IsFrame m bs)

-- at most one message settled for a kind has a frame
abbrev pub FrameUnique : Type 0
FrameUnique = (k : Kind) (m n : Message) (bs : List ℕ) → SettledFor k m → SettledFor k n → IsFrame m bs → IsFrame n bs → m ≡ n

-- a settled message's frame reads back
abbrev pub ReadsBack : Type 0
ReadsBack = (k : Kind) (m : Message) (bs : List ℕ) → SettledFor k m → IsFrame m bs → read_of k bs ≡ given m

-- what was written of a message that the kind reads, reads back as its settled form
abbrev pub WrittenReads : Type 0
WrittenReads = (k : Kind) (m : Message) (bs : List ℕ) → reads k m.head ≡ true → IsFrame m bs → read_of k bs ≡ given (settle m)

-- "Where nothing is refused the number is 0": for the frames of settled messages, and no other bytes
abbrev pub ReadZero : Type 0
ReadZero = (k : Kind) (bs : List ℕ) → (answer_number (read_of k bs) ≡ 0) ↔ IsFrameFor k bs

-- row 6, SHAPE
abbrev pub ShapeExactly : Type 0
ShapeExactly = (k : Kind) (bs : List ℕ) → (answer_number (read_of k bs) ≡ 6) ↔ (Shaped bs → ⊥)

-- 7E, any device, a head of the table
pub record Headed (mid : List ℕ) : Type 0 where
  pub to : ℕ
  pub head : Head
  pub rest : List ℕ
  pub is : 0x7E ∷ to ∷ (code head ++ rest) ≡ mid

-- the shape is right, "second byte not 7E, or a head not above"
pub record NoHead (bs : List ℕ) : Type 0 where
  pub shaped : Shaped bs
  pub not_headed : Headed shaped.mid → ⊥

-- row 7, HEAD
abbrev pub HeadExactly : Type 0
HeadExactly = (k : Kind) (bs : List ℕ) → (answer_number (read_of k bs) ≡ 7) ↔ NoHead bs

-- F0, what is summed, the checksum byte, F7
abbrev pub checked : List ℕ → ℕ → List ℕ
checked summed_bytes c = 0xF0 ∷ (summed_bytes ++ (c ∷ []) ++ (0xF7 ∷ []))

-- "another checksum byte would make it such a frame"
pub record OtherSum (k : Kind) (bs : List ℕ) : Type 0 where
  pub summed_bytes : List ℕ
  pub sum : ℕ
  pub other : ℕ
  pub low : sum < 128
  pub message : Message
  pub is : checked summed_bytes sum ≡ bs
  pub wrong : sum ≡ other → ⊥
  pub head_sums : summed message.head ≡ true
  pub settled : SettledFor k message
  pub right : IsFrame message (checked summed_bytes other)

-- row 9, SUM
abbrev pub SumExactly : Type 0
SumExactly = (k : Kind) (bs : List ℕ) → (answer_number (read_of k bs) ≡ 9) ↔ OtherSum k bs

-- shape and head are right, "no message settled for the named kind has the frame, and 9 does not apply"
pub record NoFrame (k : Kind) (bs : List ℕ) : Type 0 where
  pub shaped : Shaped bs
  pub headed : Headed shaped.mid
  pub none_settled : IsFrameFor k bs → ⊥
  pub not_sum : OtherSum k bs → ⊥

-- row 8, FIELD
abbrev pub FieldExactly : Type 0
FieldExactly = (k : Kind) (bs : List ℕ) → (answer_number (read_of k bs) ≡ 8) ↔ NoFrame k bs

-- "Names, URLs and sample bytes come back as parts of the frame lent": a settled message's stand in its frame where it says, also where there are none
pub record TextStands (m : Message) (bs : List ℕ) : Type 0 where
  pub inside : text_start m + length (text m) ≤ length bs
  pub there : take (length (text m)) (drop (text_start m) bs) ≡ text m

abbrev pub TextInFrame : Type 0
TextInFrame = (m : Message) (bs : List ℕ) → Settled m → IsFrame m bs → TextStands m bs

-- ---- identity reading

-- rows 13 to 15: the number is that of the first row that applies. "Where nothing is refused the number is 0": the reply is the bytes'
abbrev pub IdentityExactly : Type 0
IdentityExactly =
    (l : List ℕ) → (identity_number (identity_of l) ≡ first_number (rows l)) × (first_number (rows l) ≡ 0 → identity_value (identity_of l) ≡ some (reply_in l))

-- the bytes of a reply from its head on
abbrev pub reply_bytes : IdentityReply → List ℕ
reply_bytes r = code head.IdentityReply ++ (form head.IdentityReply).bytes r

-- a settled reply, from its head on, is read as that reply
abbrev pub IdentityBack : Type 0
IdentityBack =
    (r : IdentityReply) → (form head.IdentityReply).settled r
    → (identity_number (identity_of (reply_bytes r)) ≡ 0) × (identity_value (identity_of (reply_bytes r)) ≡ some r)

-- ---- the walk: demand 3

-- "The walk lists a stretch exactly when its bytes are the frame of some message settled for that kind"
abbrev pub ListedExactly : Type 0
ListedExactly = (k : Kind) (s : List ℕ) (o l : ℕ) → Listed (o, l) (frames k s) ↔ ((o + l ≤ length s) × IsFrameFor k (take l (drop o s)))

-- "It lists by rising offset, each such stretch once"
abbrev pub ListedRising : Type 0
ListedRising = (k : Kind) (s : List ℕ) → Rising (frames k s)

-- two streams that agree "from some F0 in each to their ends": "From there both lists hold the same pairs, offsets counted from that F0"
abbrev pub SameFromThere : Type 0
SameFromThere =
    (k : Kind) (s t : List ℕ) (a b : ℕ) → a < length s → b < length t → get_or s a 0 ≡ 0xF0 → get_or t b 0 ≡ 0xF0
    → drop a s ≡ drop b t → since a (frames k s) ≡ since b (frames k t)

-- ---- the extended header

-- a header is refused as its rate is: the header's number is the split's
abbrev pub HeaderAsSplit : Type 0
HeaderAsSplit =
    (n b : ℕ) (x : Float) (l s e : ℕ) (t : ExtendedLoopType) (c : ℕ)
    → header_number (header_of n b x l s e t c) ≡ (numbers_of (split_of x)).number

-- the message of a header made from an f64 is not refused: no number of it is a u28 of 2^28 or more
abbrev pub HeaderAdmitted : Type 0
HeaderAdmitted =
    (d : DeviceID) (n b : ℕ) (x : Float) (l s e : ℕ) (t : ExtendedLoopType) (c : ℕ) (m : ExtendedSampleDumpMsg) (text entries : List ℕ)
    → header_of n b x l s e t c ≡ Ok m → refusal (message_of d (ExtendedSampleDump m) text entries) ≡ none
