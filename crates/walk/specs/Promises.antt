-- Demand 3, as propositions over the contracts of `walk` and `read`: the theorems of proofs/ have these types.
use Rattle.std.specs.Prelude.{◌≡◌, ◌↔◌, ◌⊎◌, List, ℕ, ◌+◌, ◌*◌, ◌/◌, ◌≤◌, ◌<◌, length, get_or, take, drop, Result}
use Rattle.util.specs.Limits.{most_frame, most_stream}
use Rattle.util.specs.declared.refusal.Refusal.{Refusal}
use Rattle.messages.specs.declared.file_reference.Kind.{Kind}
use Rattle.messages.specs.Messages.{Message, given, SettledFor}
use Rattle.messages.specs.Promises.{IsFrame, IsFrameFor}
use Rattle.messages.specs.Walk.{Stretch, Listed, Rising, since, frames}
use Rattle.reader.specs.declared.lent.Reading.{Reading}
use Rattle.reader.specs.Reading.{said}
use Rattle.reader.specs.Promises.{Read, Enough, SamePut}
use Rattle.walk.specs.Answer.{Walked, walked_number, walked_value, pairs, how_many, WalkMet}

-- "Take any stream of up to 65,535 bytes, whatever they are, read for a named kind of sound file with an index long enough":
-- a call of `walk` over s for the kind k that was lent the index ix, answered w and left ix'. "An index is long enough where INDEX does not apply"
pub record Walk (k : Kind) (w : Walked) (s ix ix' : List ℕ) : Type 0 where
  pub met : WalkMet w k s ix ix'
  pub short : length s ≤ most_stream
  pub long_enough : how_many k s ≤ length ix / 2

-- what is listed: the pairs of the index at exit, as many as are answered
abbrev pub listed : Walked → List ℕ → List Stretch
listed w ix' = pairs (walked_value w) ix'

-- the bytes of a stretch
abbrev pub stretch : List ℕ → ℕ → ℕ → List ℕ
stretch s o l = take l (drop o s)

-- "The walk lists a stretch exactly when its bytes are the frame of some message settled for that kind"
abbrev pub ListsExactly : Type 0
ListsExactly =
    (k : Kind) (w : Walked) (s ix ix' : List ℕ) (o l : ℕ) → Walk k w s ix ix'
    → Listed (o, l) (listed w ix') ↔ ((o + l ≤ length s) × IsFrameFor k (stretch s o l))

-- "It lists by rising offset, each such stretch once, and answers how many"
abbrev pub ListsRising : Type 0
ListsRising =
    (k : Kind) (w : Walked) (s ix ix' : List ℕ) → Walk k w s ix ix'
    → Rising (listed w ix') × (walked_number w ≡ 0) × (walked_value w ≡ length (listed w ix'))

-- the message that a reading gives, the only one settled for the kind whose frame the bytes are
pub record GivesTheOnly (k : Kind) (r : Result Reading Refusal) (frame dat' es' : List ℕ) : Type 0 where
  pub message : Message
  pub is_given : said r frame dat' es' ≡ given message
  pub settled : SettledFor k message
  pub frame_is : IsFrame message frame
  pub only : (n : Message) → SettledFor k n → IsFrame n frame → n ≡ message

-- "enough space", for the message whose frame the bytes are
abbrev pub EnoughFor : Kind → List ℕ → List ℕ → List ℕ → Type 0
EnoughFor k frame dat es = (m : Message) → SettledFor k m → IsFrame m frame → Enough m dat es

-- "Reading a listed stretch for that kind with enough space gives the only message settled for that kind whose frame it is"
abbrev pub ReadsListed : Type 0
ReadsListed =
    (k : Kind) (w : Walked) (s ix ix' : List ℕ) (o l : ℕ) (r : Result Reading Refusal) (dat dat' es es' : List ℕ) → Walk k w s ix ix'
    → Listed (o, l) (listed w ix') → Read k r (stretch s o l) dat dat' es es' → EnoughFor k (stretch s o l) dat es
    → GivesTheOnly k r (stretch s o l) dat' es'

-- "any second such stream [..] that agrees with the first from some F0 in each to their ends, whatever bytes stand before it in either"
pub record Agree (s t : List ℕ) (a b : ℕ) : Type 0 where
  pub in_first : a < length s
  pub in_second : b < length t
  pub first_f0 : get_or s a 0 ≡ 0xF0
  pub second_f0 : get_or t b 0 ≡ 0xF0
  pub same : drop a s ≡ drop b t

-- "From there both lists hold the same pairs, offsets counted from that F0"
abbrev pub SamePairs : Type 0
SamePairs =
    (k : Kind) (w v : Walked) (s t ix ix' iy iy' : List ℕ) (a b : ℕ) → Walk k w s ix ix' → Walk k v t iy iy' → Agree s t a b
    → since a (listed w ix') ≡ since b (listed v iy')

-- "Every stretch from there, listed or not, read for that kind with equal space, gets the same answer in both"; "equal space is of equal lengths".
-- The same is put into the space of both
abbrev pub SameReadings : Type 0
SameReadings =
    (k : Kind) (s t : List ℕ) (a b o l : ℕ) (p q : Result Reading Refusal) (dat dat' es es' dau dau' et et' : List ℕ) → Agree s t a b
    → Read k p (stretch s (a + o) l) dat dat' es es' → Read k q (stretch t (b + o) l) dau dau' et et'
    → length dat ≡ length dau → length es ≡ length et
    → (p ≡ q) × SamePut dat dat' dau dau' × SamePut es es' et et'

-- ---- a stream in pieces

-- no frame has more than 1,292 bytes
abbrev pub FrameShort : Type 0
FrameShort = (k : Kind) (bs : List ℕ) → IsFrameFor k bs → length bs ≤ most_frame

-- n bytes of a stream from p on hold the frames that begin there: those that begin 1,292 bytes or more before their end, or all where the stream
-- ends with them
abbrev pub PieceLists : Type 0
PieceLists =
    (k : Kind) (s : List ℕ) (p n o l : ℕ) → (o + most_frame ≤ n) ⊎ (length s ≤ p + n)
    → Listed (p + o, l) (frames k s) ↔ Listed (o, l) (frames k (stretch s p n))

-- ---- rows 11 and 12, and demand 1 of the walk

-- row 11, STREAM
abbrev pub StreamExactly : Type 0
StreamExactly =
    (k : Kind) (w : Walked) (s ix ix' : List ℕ) → WalkMet w k s ix ix' → (walked_number w ≡ 11) ↔ (most_stream < length s)

-- row 12, INDEX
abbrev pub IndexExactly : Type 0
IndexExactly =
    (k : Kind) (w : Walked) (s ix ix' : List ℕ) → WalkMet w k s ix ix'
    → (walked_number w ≡ 12) ↔ ((length s ≤ most_stream) × (length ix / 2 < how_many k s))

-- what is answered besides 11 is 0, and the number of frames otherwise, with 12 too
abbrev pub CountsFrames : Type 0
CountsFrames =
    (k : Kind) (w : Walked) (s ix ix' : List ℕ) → WalkMet w k s ix ix'
    → (most_stream < length s → walked_value w ≡ 0) × (length s ≤ most_stream → walked_value w ≡ how_many k s)

-- "a refused call alters no lent byte or entry"
abbrev pub RefusedKept : Type 0
RefusedKept = (k : Kind) (w : Walked) (s ix ix' : List ℕ) → WalkMet w k s ix ix' → (walked_number w ≡ 0 → ⊥) → ix' ≡ ix

-- "numbers past the last pair keep their values"
abbrev pub RestKept : Type 0
RestKept =
    (k : Kind) (w : Walked) (s ix ix' : List ℕ) → Walk k w s ix ix' → drop (walked_value w * 2) ix' ≡ drop (walked_value w * 2) ix

-- ---- one answer

-- a call of `walk` has one answer, and one way in which it leaves the index
abbrev pub OneWalk : Type 0
OneWalk =
    (k : Kind) (w v : Walked) (s ix ix' ix'' : List ℕ) → WalkMet w k s ix ix' → WalkMet v k s ix ix'' → (w ≡ v) × (ix' ≡ ix'')
