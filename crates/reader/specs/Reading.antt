-- Reading (01, "Reading and the walk"): what an answer says, every number of it, and what the lent space holds after it.
use Rattle.std.specs.Prelude.{◌≡◌, Bool, true, false, List, [], ◌∷◌, ℕ, length, take, drop, Result, Ok, Err}
use Rattle.util.specs.Splice.{overwritten}
use Rattle.util.specs.Refusals.{number}
use Rattle.messages.specs.declared.system_exclusive.UniversalNonRealTimeMsg.{UniversalNonRealTimeMsg}
use Rattle.messages.specs.declared.system_exclusive.UniversalNonRealTimeMsg.TheVariants as msg
use Rattle.messages.specs.declared.file_dump.FileDumpMsg.{FileDumpMsg}
use Rattle.messages.specs.declared.file_dump.FileDumpMsg.TheVariants as file
use Rattle.messages.specs.Messages.{Message, Answer, refused, given, text, text_start, file_data, entries, places, holding}
use Rattle.messages.specs.MessageOf.{message_of}
use Rattle.read_places.specs.Found.{text_from}
use Rattle.util.specs.declared.refusal.Refusal.{Refusal}
use Rattle.reader.specs.declared.lent.Reading.{Reading}

-- 01's number of an answer: "Where nothing is refused the number is 0"
abbrev pub reading_number : Result Reading Refusal → ℕ
reading_number (Ok x) = 0
reading_number (Err r) = number r

-- 01's value of an answer, "each reading the message": what it says with the frame and what lent space holds
abbrev pub said : Result Reading Refusal → List ℕ → List ℕ → List ℕ → Answer Message
said (Ok x) frame dat es = given (message_of x.device x.m (text_from x.m (take x.len (drop x.from frame)) (take x.places dat)) (take x.places es))
said (Err r) frame dat es = refused r

-- the numbers of an answer beside the message: where its name, URL or sample bytes begin in the frame, how many they are, the lent places it takes
abbrev pub text_and_places : Result Reading Refusal → List ℕ
text_and_places (Ok x) = x.from ∷ x.len ∷ x.places ∷ []
text_and_places (Err r) = []

-- those of the message that is given: start 0 and length 0 where it has no text, places 0 where it has no list
abbrev pub text_and_places_of : Answer Message → List ℕ
text_and_places_of (given m) = text_start m ∷ length (text m) ∷ places m ∷ []
text_and_places_of (refused r) = []

-- ---- with no lent space

-- the lists of the message that is given
abbrev pub data_given : Answer Message → List ℕ
data_given (refused r) = []
data_given (given m) = file_data m

abbrev pub entries_given : Answer Message → List ℕ
entries_given (refused r) = []
entries_given (given m) = entries m

-- examining a frame whose answer is a: what a reading answers that is lent the places which the message takes
pub record Tells (r : Result Reading Refusal) (a : Answer Message) (frame : List ℕ) : Type 0 where
  pub says : said r frame (data_given a) (entries_given a) ≡ a
  pub numbers_are : text_and_places r ≡ text_and_places_of a

-- ---- with lent space

-- "file data [..] go to lent space, one place each", from its start; the rest keeps its values, and all of it under a refusal
abbrev pub data_after : Answer Message → List ℕ → List ℕ
data_after (refused r) l = l
data_after (given m) l = overwritten (file_data m) l

-- the same of "entries (tunings, note changes, bank map records)"
abbrev pub entries_after : Answer Message → List ℕ → List ℕ
entries_after (refused r) l = l
entries_after (given m) l = overwritten (entries m) l

-- reading a frame whose answer without lent space is a: the answer with lent space, and what lent space holds after it
pub record ReadMet (r : Result Reading Refusal) (a : Answer Message) (frame dat dat' es es' : List ℕ) : Type 0 where
  pub says : said r frame dat' es' ≡ holding (length dat) (length es) a
  pub numbers_are : text_and_places r ≡ text_and_places_of (holding (length dat) (length es) a)
  pub data_is : dat' ≡ data_after (holding (length dat) (length es) a) dat
  pub entries_are : es' ≡ entries_after (holding (length dat) (length es) a) es

-- whether the list of a message is file data
abbrev pub has_data_file : FileDumpMsg → Bool
has_data_file (file.Header d t l) = false
has_data_file (file.Packet c) = true
has_data_file (file.Request d t) = false

abbrev pub has_data : UniversalNonRealTimeMsg → Bool
has_data (msg.SampleDump m) = false
has_data (msg.ExtendedSampleDump m) = false
has_data msg.IdentityRequest = false
has_data (msg.IdentityReply r) = false
has_data (msg.FileDump m) = has_data_file m
has_data (msg.TuningBulkDumpRequest b p) = false
has_data (msg.KeyBasedTuningDump k) = false
has_data (msg.ScaleTuningDump1Byte s) = false
has_data (msg.ScaleTuningDump2Byte s) = false
has_data (msg.TuningNoteChange c) = false
has_data (msg.ScaleTuning1Byte s) = false
has_data (msg.ScaleTuning2Byte s) = false
has_data (msg.GeneralMidi g) = false
has_data (msg.FileReference m) = false
has_data msg.EOF = false
has_data msg.Wait = false
has_data msg.Cancel = false
has_data (msg.NAK n) = false
has_data (msg.ACK n) = false
