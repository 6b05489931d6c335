-- The rows of the format: for each head code and form the types of the fields in order, and the message that they are.
use Rattle.std.specs.Prelude.{Some, None, List, [], ◌∷◌, ℕ, ℤ}
use Rattle.numbers_to_message.specs.Types.{NumberType, FileReferenceType, WAVMap, SelectMap, ManufacturerID, UniversalNonRealTimeMsg}
use Rattle.numbers_to_message.specs.Values.{Value}
use Rattle.numbers_to_message.specs.declared.fit.NumberType.TheVariants.{U8, U16, U32, U64, I8, I16, Flag, Device, RequestedLoop, TransmittedLoop, LoopType, ExtendedLoopType, FileType, ReferenceType, BankOrNone, Zero, One, Two, Three}
use Rattle.messages.specs.declared.sample_dump.SampleDumpMsg.TheVariants as sample
use Rattle.messages.specs.declared.sample_dump.ExtendedSampleDumpMsg.TheVariants as extended
use Rattle.messages.specs.declared.file_dump.FileDumpMsg.TheVariants as file
use Rattle.messages.specs.declared.file_reference.SelectMap.TheVariants as select
use Rattle.messages.specs.declared.file_reference.FileReferenceMsg.TheVariants as reference
use Rattle.messages.specs.declared.system_exclusive.ManufacturerID.TheVariants.{OneByte, Extended}
use Rattle.messages.specs.declared.system_exclusive.UniversalNonRealTimeMsg.TheVariants as msg

-- what is made of a value of each type, in order
abbrev pub Fun : List NumberType → Type 0 → Type 0
Fun [] R = R
Fun (t ∷ ts) R = Value t → Fun ts R

pub record Row : Type 0 where
  pub types : List NumberType
  pub make : Fun types UniversalNonRealTimeMsg

-- ---- the rows

-- sample dumps
abbrev pub header : Row
header = record { types = U16 ∷ U8 ∷ U32 ∷ U32 ∷ U32 ∷ U32 ∷ LoopType ∷ []; make = λ n f p l s e t. msg.SampleDump (sample.Header n f p l s e t) }

abbrev pub packet : Row
packet = record { types = U8 ∷ []; make = λ c. msg.SampleDump (sample.Packet c) }

abbrev pub request : Row
request = record { types = U16 ∷ []; make = λ n. msg.SampleDump (sample.Request n) }

abbrev pub transmission : Row
transmission = record { types = U16 ∷ TransmittedLoop ∷ LoopType ∷ U32 ∷ U32 ∷ []; make = λ n i t s e. msg.SampleDump (sample.LoopPointTransmission n i t s e) }

abbrev pub points_request : Row
points_request = record { types = U16 ∷ RequestedLoop ∷ []; make = λ n i. msg.SampleDump (sample.LoopPointsRequest n i) }

abbrev pub name : Row
name = record { types = U16 ∷ []; make = λ n. msg.ExtendedSampleDump (extended.SampleName n) }

abbrev pub name_request : Row
name_request = record { types = U16 ∷ []; make = λ n. msg.ExtendedSampleDump (extended.SampleNameRequest n) }

abbrev pub extended_header : Row
extended_header = record { types = U16 ∷ U8 ∷ U32 ∷ U32 ∷ U64 ∷ U64 ∷ U64 ∷ ExtendedLoopType ∷ U8 ∷ []; make = λ n f w r l s e t c. msg.ExtendedSampleDump (extended.Header n f w r l s e t c) }

abbrev pub extended_transmission : Row
extended_transmission = record { types = U16 ∷ TransmittedLoop ∷ ExtendedLoopType ∷ U64 ∷ U64 ∷ []; make = λ n i t s e. msg.ExtendedSampleDump (extended.LoopPointTransmission n i t s e) }

abbrev pub extended_points_request : Row
extended_points_request = record { types = U16 ∷ RequestedLoop ∷ []; make = λ n i. msg.ExtendedSampleDump (extended.LoopPointsRequest n i) }

-- identity: "maker form (0 one byte, 1 two bytes), m1, m2 (0 in form 0), family, member, r1 to r4"
abbrev pub identity_request : Row
identity_request = record { types = []; make = msg.IdentityRequest }

abbrev pub reply : ManufacturerID → ℕ → ℕ → ℕ → ℕ → ℕ → ℕ → UniversalNonRealTimeMsg
reply id f m a b c d =
    msg.IdentityReply (record { id = id; family = f; family_member = m; software_revision = (a, b, c, d) })

abbrev pub one_byte_reply : Row
one_byte_reply = record { types = Zero ∷ U8 ∷ Zero ∷ U16 ∷ U16 ∷ U8 ∷ U8 ∷ U8 ∷ U8 ∷ []; make = λ u m n. reply (OneByte m) }

abbrev pub two_byte_reply : Row
two_byte_reply = record { types = One ∷ U8 ∷ U8 ∷ U16 ∷ U16 ∷ U8 ∷ U8 ∷ U8 ∷ U8 ∷ []; make = λ u m n. reply (Extended m n) }

-- file dumps
abbrev pub file_header : Row
file_header = record { types = Device ∷ FileType ∷ U32 ∷ []; make = λ s t l. msg.FileDump (file.Header s t l) }

abbrev pub file_packet : Row
file_packet = record { types = U8 ∷ []; make = λ c. msg.FileDump (file.Packet c) }

abbrev pub file_request : Row
file_request = record { types = Device ∷ FileType ∷ []; make = λ r t. msg.FileDump (file.Request r t) }

-- tunings
abbrev pub bulk_request : Row
bulk_request = record { types = U8 ∷ []; make = λ p. msg.TuningBulkDumpRequest None p }

abbrev pub bank_bulk_request : Row
bank_bulk_request = record { types = U8 ∷ U8 ∷ []; make = λ b p. msg.TuningBulkDumpRequest (Some b) p }

abbrev pub keys : Row
keys = record { types = U8 ∷ []; make = λ p. msg.KeyBasedTuningDump (record { tuning_bank_num = None; tuning_program_num = p }) }

abbrev pub bank_keys : Row
bank_keys = record { types = U8 ∷ U8 ∷ []; make = λ b p. msg.KeyBasedTuningDump (record { tuning_bank_num = Some b; tuning_program_num = p }) }

abbrev pub note_change : Row
note_change = record { types = BankOrNone ∷ U8 ∷ []; make = λ b p. msg.TuningNoteChange (record { tuning_bank_num = b; tuning_program_num = p }) }

-- "twelve values"
abbrev pub twelve : NumberType → List NumberType
twelve t = t ∷ t ∷ t ∷ t ∷ t ∷ t ∷ t ∷ t ∷ t ∷ t ∷ t ∷ t ∷ []

abbrev pub scale_1 : (List ℤ → UniversalNonRealTimeMsg) → Fun (twelve I8) UniversalNonRealTimeMsg
scale_1 f = λ c c' d d' e g g' h h' a a' b. f (c ∷ c' ∷ d ∷ d' ∷ e ∷ g ∷ g' ∷ h ∷ h' ∷ a ∷ a' ∷ b ∷ [])

abbrev pub scale_2 : (List ℤ → UniversalNonRealTimeMsg) → Fun (twelve I16) UniversalNonRealTimeMsg
scale_2 f = λ c c' d d' e g g' h h' a a' b. f (c ∷ c' ∷ d ∷ d' ∷ e ∷ g ∷ g' ∷ h ∷ h' ∷ a ∷ a' ∷ b ∷ [])

abbrev pub scale_dump_1 : Row
scale_dump_1 = record { types = U8 ∷ U8 ∷ twelve I8; make = λ b p. scale_1 (λ s. msg.ScaleTuningDump1Byte (record { tuning_bank_num = b; tuning_program_num = p; tuning = s })) }

abbrev pub scale_dump_2 : Row
scale_dump_2 = record { types = U8 ∷ U8 ∷ twelve I16; make = λ b p. scale_2 (λ s. msg.ScaleTuningDump2Byte (record { tuning_bank_num = b; tuning_program_num = p; tuning = s })) }

abbrev pub scale_tuning_1 : Row
scale_tuning_1 = record { types = U16 ∷ twelve I8; make = λ c. scale_1 (λ s. msg.ScaleTuning1Byte (record { channels = record { channels = c }; tuning = s })) }

abbrev pub scale_tuning_2 : Row
scale_tuning_2 = record { types = U16 ∷ twelve I16; make = λ c. scale_2 (λ s. msg.ScaleTuning2Byte (record { channels = record { channels = c }; tuning = s })) }

-- General MIDI and handshakes
abbrev pub no_fields : UniversalNonRealTimeMsg → Row
no_fields m = record { types = []; make = m }

abbrev pub nak : Row
nak = record { types = U8 ∷ []; make = λ p. msg.NAK p }

abbrev pub ack : Row
ack = record { types = U8 ∷ []; make = λ p. msg.ACK p }

-- file references
abbrev pub wav_map : ℕ → ℕ → ℕ → ℕ → ℕ → ℤ → ℕ → WAVMap
wav_map b p k l h f v = record { dst_bank = b; dst_prog = p; base = k; lokey = l; hikey = h; fine = f; volume = v }

-- a map of each form: "form, offset, drum, then target bank, program, base, low key, high key, fine, volume"; "Those that a form does not use are 0"
abbrev pub list_types : List NumberType
list_types = Zero ∷ Zero ∷ Zero ∷ Zero ∷ Zero ∷ Zero ∷ Zero ∷ Zero ∷ Zero ∷ Zero ∷ []

abbrev pub offset_types : List NumberType
offset_types = One ∷ U16 ∷ Flag ∷ Zero ∷ Zero ∷ Zero ∷ Zero ∷ Zero ∷ Zero ∷ Zero ∷ []

abbrev pub wav_types : List NumberType
wav_types = Two ∷ Zero ∷ Zero ∷ U16 ∷ U8 ∷ U8 ∷ U8 ∷ U8 ∷ I16 ∷ U8 ∷ []

abbrev pub both_types : List NumberType
both_types = Three ∷ U16 ∷ Flag ∷ U16 ∷ U8 ∷ U8 ∷ U8 ∷ U8 ∷ I16 ∷ U8 ∷ []

abbrev pub list_map : (SelectMap → UniversalNonRealTimeMsg) → Fun list_types UniversalNonRealTimeMsg
list_map f = λ u o d b p k l h t v. f select.SoundFile

abbrev pub offset_map : (SelectMap → UniversalNonRealTimeMsg) → Fun offset_types UniversalNonRealTimeMsg
offset_map f = λ u o d b p k l h t v. f (select.SoundFileBankOffset o d)

abbrev pub plain_map : (SelectMap → UniversalNonRealTimeMsg) → Fun wav_types UniversalNonRealTimeMsg
plain_map f = λ u o d b p k l h t v. f (select.WAV (wav_map b p k l h t v))

abbrev pub both_map : (SelectMap → UniversalNonRealTimeMsg) → Fun both_types UniversalNonRealTimeMsg
both_map f = λ u o d b p k l h t v. f (select.WAVBankOffset (wav_map b p k l h t v) o d)

abbrev pub selected : ℕ → SelectMap → UniversalNonRealTimeMsg
selected c m = msg.FileReference (reference.SelectContents c m)

abbrev pub opened : ℕ → FileReferenceType → SelectMap → UniversalNonRealTimeMsg
opened c t m = msg.FileReference (reference.OpenSelectContents c t m)

abbrev pub open_file : Row
open_file = record { types = U16 ∷ ReferenceType ∷ []; make = λ c t. msg.FileReference (reference.Open c t) }

abbrev pub select_list : Row
select_list = record { types = U16 ∷ list_types; make = λ c. list_map (selected c) }

abbrev pub select_offset : Row
select_offset = record { types = U16 ∷ offset_types; make = λ c. offset_map (selected c) }

abbrev pub select_wav : Row
select_wav = record { types = U16 ∷ wav_types; make = λ c. plain_map (selected c) }

abbrev pub select_both : Row
select_both = record { types = U16 ∷ both_types; make = λ c. both_map (selected c) }

abbrev pub open_select_list : Row
open_select_list = record { types = U16 ∷ ReferenceType ∷ list_types; make = λ c t. list_map (opened c t) }

abbrev pub open_select_offset : Row
open_select_offset = record { types = U16 ∷ ReferenceType ∷ offset_types; make = λ c t. offset_map (opened c t) }

abbrev pub open_select_wav : Row
open_select_wav = record { types = U16 ∷ ReferenceType ∷ wav_types; make = λ c t. plain_map (opened c t) }

abbrev pub open_select_both : Row
open_select_both = record { types = U16 ∷ ReferenceType ∷ both_types; make = λ c t. both_map (opened c t) }

abbrev pub close_file : Row
close_file = record { types = U16 ∷ []; make = λ c. msg.FileReference (reference.Close c) }
