-- What a reader of fields has found is what the layout reads of them, whatever the device.
use Rattle.std.specs.Prelude.{◌≡◌, Bool, true, false, List, [], ℕ, ◌+◌, ◌≤◌, eqb, length, take, drop, Option, Some, None}
use Rattle.std.proofs.Math.Option.{Option as Maybe, none, some}
use Rattle.util.specs.Limits.{most_places}
use Rattle.util.specs.Pick.{pick}
use Rattle.util.specs.declared.refusal.Refusal.TheVariants as R
use Rattle.messages.specs.declared.head.Head.{Head}
use Rattle.messages.specs.declared.system_exclusive.DeviceID.{DeviceID}
use Rattle.messages.specs.declared.system_exclusive.UniversalNonRealTimeMsg.{UniversalNonRealTimeMsg}
use Rattle.messages.specs.declared.system_exclusive.UniversalNonRealTimeMsg.TheVariants as msg
use Rattle.messages.specs.declared.file_dump.FileDumpMsg.{FileDumpMsg}
use Rattle.messages.specs.declared.file_dump.FileDumpMsg.TheVariants as file
use Rattle.messages.specs.declared.file_reference.SelectMap.{SelectMap}
use Rattle.messages.specs.declared.file_reference.SelectMap.TheVariants as select
use Rattle.messages.specs.declared.file_reference.FileReferenceMsg.{FileReferenceMsg}
use Rattle.messages.specs.declared.file_reference.FileReferenceMsg.TheVariants as reference
use Rattle.messages.specs.Layouts.{form, text_at}
use Rattle.messages.specs.Messages.{Message, Answer, refused, given, plain_answer}
use Rattle.messages.specs.MessageOf.{message_of}
use Rattle.read_places.specs.declared.Found.{Found}
use Rattle.read_places.specs.Places.{tuning_entries, change_entries, map_entries, data_at}

-- ---- what goes to lent space, of the bytes f of the fields: the list that starts at i and takes n places

abbrev pub data_file : FileDumpMsg → List ℕ → ℕ → List ℕ
data_file (file.Header d t l) f i = []
data_file (file.Packet c) f i = data_at f i
data_file (file.Request d t) f i = []

abbrev pub data_of : UniversalNonRealTimeMsg → List ℕ → ℕ → List ℕ
data_of (msg.SampleDump m) f i = []
data_of (msg.ExtendedSampleDump m) f i = []
data_of msg.IdentityRequest f i = []
data_of (msg.IdentityReply r) f i = []
data_of (msg.FileDump m) f i = data_file m f i
data_of (msg.TuningBulkDumpRequest b p) f i = []
data_of (msg.KeyBasedTuningDump k) f i = []
data_of (msg.ScaleTuningDump1Byte s) f i = []
data_of (msg.ScaleTuningDump2Byte s) f i = []
data_of (msg.TuningNoteChange c) f i = []
data_of (msg.ScaleTuning1Byte s) f i = []
data_of (msg.ScaleTuning2Byte s) f i = []
data_of (msg.GeneralMidi g) f i = []
data_of (msg.FileReference m) f i = []
data_of msg.EOF f i = []
data_of msg.Wait f i = []
data_of msg.Cancel f i = []
data_of (msg.NAK n) f i = []
data_of (msg.ACK n) f i = []

abbrev pub entries_select : SelectMap → List ℕ → ℕ → ℕ → List ℕ
entries_select select.SoundFile f i n = map_entries f i n
entries_select (select.WAV m) f i n = []
entries_select (select.SoundFileBankOffset o d) f i n = []
entries_select (select.WAVBankOffset m o d) f i n = []

abbrev pub entries_reference : FileReferenceMsg → List ℕ → ℕ → ℕ → List ℕ
entries_reference (reference.Open c t) f i n = []
entries_reference (reference.SelectContents c m) f i n = entries_select m f i n
entries_reference (reference.OpenSelectContents c t m) f i n = entries_select m f i n
entries_reference (reference.Close c) f i n = []

abbrev pub entries_of : UniversalNonRealTimeMsg → List ℕ → ℕ → ℕ → List ℕ
entries_of (msg.SampleDump m) f i n = []
entries_of (msg.ExtendedSampleDump m) f i n = []
entries_of msg.IdentityRequest f i n = []
entries_of (msg.IdentityReply r) f i n = []
entries_of (msg.FileDump m) f i n = []
entries_of (msg.TuningBulkDumpRequest b p) f i n = []
entries_of (msg.KeyBasedTuningDump k) f i n = tuning_entries f i n
entries_of (msg.ScaleTuningDump1Byte s) f i n = []
entries_of (msg.ScaleTuningDump2Byte s) f i n = []
entries_of (msg.TuningNoteChange c) f i n = change_entries f i n
entries_of (msg.ScaleTuning1Byte s) f i n = []
entries_of (msg.ScaleTuning2Byte s) f i n = []
entries_of (msg.GeneralMidi g) f i n = []
entries_of (msg.FileReference m) f i n = entries_reference m f i n
entries_of msg.EOF f i n = []
entries_of msg.Wait f i n = []
entries_of msg.Cancel f i n = []
entries_of (msg.NAK n) f i k = []
entries_of (msg.ACK n) f i k = []

-- ---- the text that a message is made of

abbrev pub text_file : FileDumpMsg → List ℕ → List ℕ → List ℕ
text_file (file.Header d t l) part dat = part
text_file (file.Packet c) part dat = dat
text_file (file.Request d t) part dat = part

-- its file data, or a part of the frame
abbrev pub text_from : UniversalNonRealTimeMsg → List ℕ → List ℕ → List ℕ
text_from (msg.SampleDump m) part dat = part
text_from (msg.ExtendedSampleDump m) part dat = part
text_from msg.IdentityRequest part dat = part
text_from (msg.IdentityReply r) part dat = part
text_from (msg.FileDump m) part dat = text_file m part dat
text_from (msg.TuningBulkDumpRequest b p) part dat = part
text_from (msg.KeyBasedTuningDump k) part dat = part
text_from (msg.ScaleTuningDump1Byte s) part dat = part
text_from (msg.ScaleTuningDump2Byte s) part dat = part
text_from (msg.TuningNoteChange c) part dat = part
text_from (msg.ScaleTuning1Byte s) part dat = part
text_from (msg.ScaleTuning2Byte s) part dat = part
text_from (msg.GeneralMidi g) part dat = part
text_from (msg.FileReference m) part dat = part
text_from msg.EOF part dat = part
text_from msg.Wait part dat = part
text_from msg.Cancel part dat = part
text_from (msg.NAK n) part dat = part
text_from (msg.ACK n) part dat = part

-- the message that the numbers and the bytes of the fields say
abbrev pub found_of : DeviceID → Option Found → List ℕ → Answer Message
found_of d (Some r) f = given (message_of d r.m (text_from r.m (take r.len (drop r.from f)) (data_of r.m f r.at)) (entries_of r.m f r.at r.count))
found_of d None f = refused R.Field

-- the text and the list lie in the fields, and the list takes n places, at most 128
abbrev pub within : Option Found → List ℕ → Type 0
within (Some r) f =
    (r.from + r.len ≤ length f) × (r.at ≤ length f) × (r.count ≤ most_places)
    × (length (data_of r.m f r.at) + length (entries_of r.m f r.at r.count) ≡ r.count)
within None f = Unit {0}

-- the text starts where the layout has it; where the layout has none, at 0 and with no bytes
abbrev pub starts : Head → Option Found → Type 0
starts h (Some r) = (r.from ≡ text_at h) × (pick (eqb (text_at h) 0) r.len 0 ≡ 0)
starts h None = Unit {0}

-- a message, the part of the fields that is its text, and where the list starts, with the places that it takes
abbrev pub found : UniversalNonRealTimeMsg → ℕ → ℕ → ℕ → ℕ → Found
found m from len i n = record { m = m; from = from; len = len; at = i; count = n }

-- what was found of the fields f under a head is what the layout reads
pub record Reads (h : Head) (r : Option Found) (f : List ℕ) : Type 0 where
  pub says : (d : DeviceID) → found_of d r f ≡ plain_answer d h ((form h).read f)
  pub part : within r f
  pub start : starts h r

-- whether a layout reads fields
abbrev pub is_read : {A : Type 0} → Maybe A → Bool
is_read none = false
is_read (some a) = true
