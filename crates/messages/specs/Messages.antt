-- Messages: their refusal, settled form and frame (01, "The frame and its layouts", "A settled message"), and reading (01, "Reading and the walk").
use Rattle.std.specs.Prelude.{◌≡◌, Bool, true, false, ◌&&◌, List, [], ◌∷◌, ◌++◌, ℕ, ◌+◌, leb, eqb, length}
use Rattle.std.proofs.Math.Option.{Option, none, some}
use Rattle.util.specs.Pick.{pick}
use Rattle.util.specs.Groups.{seven}
use Rattle.util.specs.Checksum.{checksum}
use Rattle.util.specs.Options.{only_if}
use Rattle.messages.specs.Types.{Refusal, Head, Kind, DeviceID}
use Rattle.util.specs.declared.refusal.Refusal.TheVariants as R
use Rattle.util.specs.Refusals.{number}
use Rattle.messages.specs.Refusals.{least}
use Rattle.messages.specs.format.{Got, bad, got, bind, bind_whole, strip, after, find}
use Rattle.messages.specs.Fields as field
use Rattle.messages.specs.Layouts.{Fields, form, code, summed, reads, all_heads, text_at, text_in, file_data_in, entries_in}

-- "Messages are the same if device, head and every field are, parts by their bytes"
pub record Message : Type 0 where
  pub device : DeviceID
  pub head : Head
  pub fields : Fields head

abbrev pub make : DeviceID → (h : Head) → Fields h → Message
make d h f = record { device = d; head = h; fields = f }

-- what a call answers: a refusal, or a value
pub data Answer (A : Type 0) : Type 0 where
  refused : Refusal → Answer A
  given : A → Answer A

-- "Where nothing is refused the number is 0"
abbrev pub answer_number : {A : Type 0} → Answer A → ℕ
answer_number (refused r) = number r
answer_number (given a) = 0

-- the number of a refusal of contents, 0 for none
abbrev pub refusal_number : Option Refusal → ℕ
refusal_number none = 0
refusal_number (some r) = number r

-- ---- writing

-- the refusal of contents written, if one applies
unfoldable pub refusal : Message → Option Refusal
refusal m = least ((field.device).refuses m.device) ((form m.head).refuses m.fields)

-- the message with what is held, cut and filled as it is written
unfoldable pub settle : Message → Message
settle m = make ((field.device).settle m.device) m.head ((form m.head).settle m.fields)

-- 7E, device, head
abbrev pub opening : DeviceID → Head → List ℕ
opening d h = 0x7E ∷ (field.device).bytes d ++ code h

-- "7E, device, head, fields"
abbrev pub body : Message → List ℕ
body m = opening m.device m.head ++ (form m.head).bytes m.fields

-- "cs is the checksum", where the head has one: "XOR of 7E up to the byte before the checksum"
abbrev pub with_sum : Bool → List ℕ → List ℕ
with_sum true b = b ++ (checksum b ∷ [])
with_sum false b = b

-- "F0, 7E, device, head, fields, F7", of a message that is settled
abbrev pub framed : Message → List ℕ
framed m = 0xF0 ∷ with_sum (summed m.head) (body m) ++ (0xF7 ∷ [])

abbrev pub given_unless : {A : Type 0} → Option Refusal → A → Answer A
given_unless none a = given a
given_unless (some r) a = refused r

-- the frame of a message, or its refusal. The frame of m is bs: `write_of m ≡ given bs`
unfoldable pub write_of : Message → Answer (List ℕ)
write_of m = given_unless (refusal m) (framed (settle m))

-- ---- "A settled message"

-- "An admitted message with every field already in its written range: nothing held, cut or filled"; the clauses that follow are those of
-- `settle` in the parts: all call (device), named types (file_type), no tuning (tuning), a bank (bank_or_none), maker bytes (maker),
-- "all" (loop_number), the rate as two numbers (ExtendedHeader), channels as sixteen flags (channels)
pub record Settled (m : Message) : Type 0 where
  pub admitted : refusal m ≡ none
  pub unchanged : settle m ≡ m

-- "It is settled for a kind of sound file unless it is a select (0B 02) with a map of the other kind"
pub record SettledFor (k : Kind) (m : Message) : Type 0 where
  pub settled : Settled m
  pub kind : reads k m.head ≡ true

-- ---- reading

-- the last byte, and those before it
abbrev pub after_first : ℕ → Got ℕ → Got ℕ
after_first b bad = got b []
after_first b (got x i) = got x (b ∷ i)

abbrev pub unsnoc : List ℕ → Got ℕ
unsnoc [] = bad
unsnoc (b ∷ bs) = after_first b (unsnoc bs)

abbrev pub opt : {A B : Type 0} → Option A → (A → Option B) → Option B
opt none f = none
opt (some a) f = f a

-- what stands between F0 and F7; none where SHAPE applies: "under 6 bytes, first not F0, last not F7, or a byte above 127 between"
abbrev pub inside : List ℕ → Option (List ℕ)
inside bs =
    only_if (leb 6 (length bs))
    (opt (strip (0xF0 ∷ []) bs) λ s. bind_whole (unsnoc s) λ x mid. only_if (eqb x 0xF7) (only_if (seven mid) (some mid)))

abbrev pub Opened : Type 0
Opened = DeviceID × Head

-- 7E, device and head, and what follows; bad where HEAD applies: "second byte not 7E, or a head not above"
abbrev pub read_opening : Kind → List ℕ → Got Opened
read_opening k bs =
    after (strip (0x7E ∷ []) bs) λ s. bind ((field.device).read s) λ d t. bind (find (reads k) code all_heads t) λ h r. got (d, h) r

abbrev pub plain_answer : (d : DeviceID) (h : Head) → Option (Fields h) → Answer Message
plain_answer d h none = refused R.Field
plain_answer d h (some f) = given (make d h f)

abbrev pub sum_answer : (d : DeviceID) (h : Head) → Bool → Option (Fields h) → Answer Message
sum_answer d h t none = refused R.Field
sum_answer d h true (some f) = given (make d h f)
sum_answer d h false (some f) = refused R.Sum

abbrev pub read_summed : (d : DeviceID) (h : Head) → Got ℕ → Answer Message
read_summed d h bad = refused R.Field
read_summed d h (got c r) = sum_answer d h (eqb c (checksum (opening d h ++ r))) ((form h).read r)

abbrev pub read_fields : (d : DeviceID) (h : Head) → Bool → List ℕ → Answer Message
read_fields d h false r = plain_answer d h ((form h).read r)
read_fields d h true r = read_summed d h (unsnoc r)

abbrev pub read_opened : Got Opened → Answer Message
read_opened bad = refused R.Head
read_opened (got o r) = read_fields o.0 o.1 (summed o.1) r

abbrev pub read_inside : Kind → Option (List ℕ) → Answer Message
read_inside k none = refused R.Shape
read_inside k (some mid) = read_opened (read_opening k mid)

-- the message of a byte string for a kind, or SHAPE, HEAD, FIELD or SUM
unfoldable pub read_of : Kind → List ℕ → Answer Message
read_of k bs = read_inside k (inside bs)

-- ---- "Names, URLs and sample bytes come back as parts of the frame lent"

-- the name, URL or sample bytes of a message
abbrev pub text : Message → List ℕ
text m = text_in m.head m.fields

-- where they begin in its frame: behind F0, 7E, the device, the head and the fields before them; 0 where the message has none
abbrev pub text_start : Message → ℕ
text_start m = pick (eqb (text_at m.head) 0) 0 (3 + length (code m.head) + text_at m.head)

-- ---- lent space: "file data and entries (tunings, note changes, bank map records) go to lent space, one place each"

-- the file data of a message, a place each
abbrev pub file_data : Message → List ℕ
file_data m = file_data_in m.head m.fields

-- the entries of a message, a place each
abbrev pub entries : Message → List ℕ
entries m = entries_in m.head m.fields

-- the lent places that a message takes; no message has both file data and entries
abbrev pub places : Message → ℕ
places m = length (file_data m) + length (entries m)

-- HOLD: "fewer lent places than this message's file data bytes or entries"
abbrev pub holds : ℕ → ℕ → Message → Bool
holds x y m = leb (length (file_data m)) x && leb (length (entries m)) y

abbrev pub held_unless : Bool → Message → Answer Message
held_unless true m = given m
held_unless false m = refused R.Hold

-- the answer of a reading lent x places for file data and y for entries
abbrev pub holding : ℕ → ℕ → Answer Message → Answer Message
holding x y (refused r) = refused r
holding x y (given m) = held_unless (holds x y m) m
