-- A message as numbers: head code, device, then the fields of a row of the head code.
use Rattle.std.specs.Prelude.{Some, None, List, [], ◌∷◌, ℕ, ◌/◌, ltb, eqb, length, drop, get_or}
use Rattle.std.proofs.Math.Option.{Option, none, some}
use Rattle.util.specs.Pick.{pick}
use Rattle.numbers_to_message.specs.Types.{NumberType, DeviceID, UniversalNonRealTimeMsg, Made}
use Rattle.numbers_to_message.specs.Values.{value}
use Rattle.numbers_to_message.specs.Rows.{Fun, Row, no_fields}
use Rattle.numbers_to_message.specs.Rows as row
use Rattle.numbers_to_message.specs.declared.fit.NumberType.TheVariants.{Device}
use Rattle.messages.specs.declared.general_midi.GeneralMidi.TheVariants.{GM1, Off, GM2}
use Rattle.messages.specs.declared.system_exclusive.UniversalNonRealTimeMsg.TheVariants as msg

abbrev pub given : {A : Type 0} → Option A → (A → Made) → Made
given none f = None
given (some a) f = f a

-- the message of numbers: one for each type, and each says a value
abbrev pub read : (ts : List NumberType) → Fun ts UniversalNonRealTimeMsg → DeviceID → List ℕ → Made
read [] m d [] = Some (d, m)
read [] m d (x ∷ l) = None
read (t ∷ ts) m d [] = None
read (t ∷ ts) m d (x ∷ l) = given (value t x) (λ a. read ts (m a) d l)

abbrev pub or_other : Made → Made → Made
or_other (Some a) b = Some a
or_other None b = b

-- the message by the first of some rows that the numbers are of
abbrev pub read_first : List Row → DeviceID → List ℕ → Made
read_first [] d l = None
read_first (r ∷ []) d l = read r.types r.make d l
read_first (r ∷ s ∷ rs) d l = or_other (read r.types r.make d l) (read_first (s ∷ rs) d l)

-- ---- the rows of each head code

abbrev pub Rows : Type 0
Rows = List (ℕ × List Row)

abbrev pub one : Row → List Row
one r = r ∷ []

abbrev pub sample_rows : Rows
sample_rows =
    (0x0100, one row.header)
    ∷ (0x0200, one row.packet)
    ∷ (0x0300, one row.request)
    ∷ []

abbrev pub extended_rows : Rows
extended_rows =
    (0x0501, one row.transmission)
    ∷ (0x0502, one row.points_request)
    ∷ (0x0503, one row.name)
    ∷ (0x0504, one row.name_request)
    ∷ (0x0505, one row.extended_header)
    ∷ (0x0506, one row.extended_transmission)
    ∷ (0x0507, one row.extended_points_request)
    ∷ []

abbrev pub identity_rows : Rows
identity_rows =
    (0x0601, one row.identity_request)
    ∷ (0x0602, row.one_byte_reply ∷ row.two_byte_reply ∷ [])
    ∷ []

abbrev pub file_rows : Rows
file_rows =
    (0x0701, one row.file_header)
    ∷ (0x0702, one row.file_packet)
    ∷ (0x0703, one row.file_request)
    ∷ []

abbrev pub tuning_rows : Rows
tuning_rows =
    (0x0800, one row.bulk_request)
    ∷ (0x0801, one row.keys)
    ∷ (0x0803, one row.bank_bulk_request)
    ∷ (0x0804, one row.bank_keys)
    ∷ (0x0805, one row.scale_dump_1)
    ∷ (0x0806, one row.scale_dump_2)
    ∷ (0x0807, one row.note_change)
    ∷ (0x0808, one row.scale_tuning_1)
    ∷ (0x0809, one row.scale_tuning_2)
    ∷ []

abbrev pub midi_rows : Rows
midi_rows =
    (0x0901, one (no_fields (msg.GeneralMidi GM1)))
    ∷ (0x0902, one (no_fields (msg.GeneralMidi Off)))
    ∷ (0x0903, one (no_fields (msg.GeneralMidi GM2)))
    ∷ []

abbrev pub reference_rows : Rows
reference_rows =
    (0x0B01, one row.open_file)
    ∷ (0x0B02, row.select_list ∷ row.select_offset ∷ row.select_wav ∷ row.select_both ∷ [])
    ∷ (0x0B03, row.open_select_list ∷ row.open_select_offset ∷ row.open_select_wav ∷ row.open_select_both ∷ [])
    ∷ (0x0B04, one row.close_file)
    ∷ []

abbrev pub handshake_rows : Rows
handshake_rows =
    (0x7B00, one (no_fields msg.EOF))
    ∷ (0x7C00, one (no_fields msg.Wait))
    ∷ (0x7D00, one (no_fields msg.Cancel))
    ∷ (0x7E00, one row.nak)
    ∷ (0x7F00, one row.ack)
    ∷ []

-- ---- the message of numbers: head code, device, then the fields

-- what a list has at a key, or else
abbrev pub find : {A : Type 0} → ℕ → List (ℕ × A) → A → A
find k [] a = a
find k (x ∷ l) a = pick (eqb k x.0) x.1 (find k l a)

-- the rows by their first head byte
abbrev pub by_first : List (ℕ × Rows)
by_first =
    (0x01, sample_rows) ∷ (0x02, sample_rows) ∷ (0x03, sample_rows) ∷ (0x05, extended_rows) ∷ (0x06, identity_rows) ∷ (0x07, file_rows)
    ∷ (0x08, tuning_rows) ∷ (0x09, midi_rows) ∷ (0x0B, reference_rows)
    ∷ (0x7B, handshake_rows) ∷ (0x7C, handshake_rows) ∷ (0x7D, handshake_rows) ∷ (0x7E, handshake_rows) ∷ (0x7F, handshake_rows) ∷ []

abbrev pub rows_of : ℕ → List Row
rows_of code = find code (find (code / 256) by_first []) []

unfoldable pub message_of_numbers : List ℕ → Made
message_of_numbers v = pick (ltb (length v) 2) None (given (value Device (get_or v 1 0)) (λ d. read_first (rows_of (get_or v 0 0)) d (drop 2 v)))
