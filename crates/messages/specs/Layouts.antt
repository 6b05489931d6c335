-- The layouts of 01, "The frame and its layouts": a row for each head. Writing, settling, refusing, reading and finding follow from this table.
use Rattle.std.specs.Prelude.{Bool, true, false, List, [], ◌∷◌, map, ℕ, length}
use Rattle.messages.specs.Types.{Head, Kind}
use Rattle.messages.specs.declared.head.Head.TheVariants.{SampleDumpHeader, SampleDumpPacket, SampleDumpRequest, LoopPointTransmission, LoopPointsRequest, SampleName, SampleNameRequest, ExtendedHeader, ExtendedLoopPointTransmission, ExtendedLoopPointsRequest, IdentityRequest, IdentityReply, FileDumpHeader, FileDumpPacket, FileDumpRequest, TuningBulkDumpRequest, KeyBasedTuningDump, BankTuningBulkDumpRequest, BankKeyBasedTuningDump, ScaleTuningDump1Byte, ScaleTuningDump2Byte, TuningNoteChange, ScaleTuning1Byte, ScaleTuning2Byte, GeneralMidi1, GeneralMidiOff, GeneralMidi2, FileReferenceOpen, SelectSoundFile, SelectWAV, FileReferenceOpenSelect, FileReferenceClose, EOF, Wait, Cancel, NAK, ACK}
use Rattle.messages.specs.declared.file_reference.Kind.TheVariants.{Bank, WAV}
use Rattle.messages.specs.format.{Whole, ◌⊗◌, ◌⊗w◌, end, nothing, ◌named◌, ◌namedW◌, sized, packed}
use Rattle.messages.specs.Fields.{u7, u14, u21, u28, u35, format, channels, device, loop_requested, loop_transmitted, zero_then, file_type, sample_name, name_of_16, file_name, bank_or_none}
use Rattle.messages.specs.Structures.{samples, keys, note_changes, scale_1, scale_2, identity_reply, loop_type, extended_loop_type}
use Rattle.messages.specs.Entries.{tuning_entry, change_entry, map_entry}
use Rattle.messages.specs.Maps.{BankSelect, map_list, map_offset, AnySelect, of_bank, of_wav, bank_select, bank_length, bank_short, wav_select, wav_length, wav_short, type_url, type_url_short, type_url_map, open_length, open_short}
use Rattle.messages.specs.Records.{sample_header, sample_packet, loop_transmission, loop_request, named_sample, extended_header, file_header, file_packet, file_request, bank_request, key_dump, bank_key_dump, note_change, file_open, open_select, close_context, scale_dump, scale_tuning, select}

-- a row: the head's bytes, whether a checksum ends it, the kinds of sound file that it is read for, its fields; among them the text, which is
-- "Names, URLs and sample bytes", with the number of bytes that stand before it, 0 where the row has none; and the file data and the entries,
-- which "go to lent space, one place each"
pub record Layout : Type 1 where
  pub head_bytes : List ℕ
  pub has_sum : Bool
  pub read_for : Kind → Bool
  pub Fields : Type 0
  pub form : Whole Fields
  pub text_at : ℕ
  pub text_of : Fields → List ℕ
  pub file_data_of : Fields → List ℕ
  pub entries_of : Fields → List ℕ

abbrev row_of : {A : Type 0} → Bool → (Kind → Bool) → List ℕ → Whole A → Layout
row_of {A} s k h p = record { head_bytes = h; has_sum = s; read_for = k; Fields = A; form = p; text_at = 0; text_of = λ f. []; file_data_of = λ f. []; entries_of = λ f. [] }

abbrev pub row : {A : Type 0} → List ℕ → Whole A → Layout
row h p = row_of false (λ k. true) h p

-- a row that ends in "cs"
abbrev pub row_cs : {A : Type 0} → List ℕ → Whole A → Layout
row_cs h p = row_of true (λ k. true) h p

-- a row of one kind of sound file: "The kind settles select (0B 02) only"
abbrev pub row_for : {A : Type 0} → (Kind → Bool) → List ℕ → Whole A → Layout
row_for k h p = row_of false k h p

-- a row with a text behind so many bytes of its fields
abbrev pub with_text : (l : Layout) → ℕ → (l.Fields → List ℕ) → Layout
with_text l n t =
    record { head_bytes = l.head_bytes; has_sum = l.has_sum; read_for = l.read_for; Fields = l.Fields; form = l.form; text_at = n; text_of = t; file_data_of = l.file_data_of; entries_of = l.entries_of }

-- a row with file data
abbrev pub with_data : (l : Layout) → (l.Fields → List ℕ) → Layout
with_data l d =
    record { head_bytes = l.head_bytes; has_sum = l.has_sum; read_for = l.read_for; Fields = l.Fields; form = l.form; text_at = l.text_at; text_of = l.text_of; file_data_of = d; entries_of = l.entries_of }

-- a row with entries
abbrev pub with_entries : (l : Layout) → (l.Fields → List ℕ) → Layout
with_entries l e =
    record { head_bytes = l.head_bytes; has_sum = l.has_sum; read_for = l.read_for; Fields = l.Fields; form = l.form; text_at = l.text_at; text_of = l.text_of; file_data_of = l.file_data_of; entries_of = e }

abbrev pub bank_entries : BankSelect → List ℕ
bank_entries (map_list l) = map map_entry l
bank_entries (map_offset o) = []

abbrev pub select_entries : AnySelect → List ℕ
select_entries (of_bank x) = bank_entries x
select_entries (of_wav x) = []

abbrev pub is_bank : Kind → Bool
is_bank Bank = true
is_bank WAV = false

abbrev pub is_wav : Kind → Bool
is_wav Bank = false
is_wav WAV = true

abbrev pub layout : Head → Layout
-- 01 sample header: nn, format held to 8..28, period, length, loop start, loop end (u21 each), loop type 00, 01, 7F
layout SampleDumpHeader = row (0x01 ∷ []) (end (u14 ⊗ format ⊗ u21 ⊗ u21 ⊗ u21 ⊗ u21 ⊗ loop_type named sample_header))
-- 02 sample packet: count (u7), 120 bytes (u7 each, zero-filled, surplus dropped), cs
layout SampleDumpPacket = with_text (row_cs (0x02 ∷ []) (end (u7 ⊗ samples named sample_packet))) 1 (λ f. f.samples)
-- 03 request: nn
layout SampleDumpRequest = row (0x03 ∷ []) (end u14)
-- 05 01 loop transmission: nn, loop number (u14; "all" is 7F 7F), type, start, end (u21)
layout LoopPointTransmission = row (0x05 ∷ 0x01 ∷ []) (end (u14 ⊗ loop_transmitted ⊗ loop_type ⊗ u21 ⊗ u21 named loop_transmission))
-- 05 02 loop request: nn, loop number
layout LoopPointsRequest = row (0x05 ∷ 0x02 ∷ []) (end (u14 ⊗ loop_requested named loop_request))
-- 05 03 sample name: nn, 00, length, name (first 127 bytes)
layout SampleName = with_text (row (0x05 ∷ 0x03 ∷ []) (end (u14 ⊗ zero_then sample_name named named_sample))) 4 (λ f. f.name)
-- 05 04 name request: nn
layout SampleNameRequest = row (0x05 ∷ 0x04 ∷ []) (end u14)
-- 05 05 extended header: nn, format held to 8..28, whole rate and 2^28ths of the rate (u28 each), length, start, end (u35 each), type, channels (u7)
layout ExtendedHeader = row (0x05 ∷ 0x05 ∷ []) (end (u14 ⊗ format ⊗ u28 ⊗ u28 ⊗ u35 ⊗ u35 ⊗ u35 ⊗ extended_loop_type ⊗ u7 named extended_header))
-- 05 06, 05 07: as 05 01, 05 02 with u35 addresses
layout ExtendedLoopPointTransmission = row (0x05 ∷ 0x06 ∷ []) (end (u14 ⊗ loop_transmitted ⊗ extended_loop_type ⊗ u35 ⊗ u35 named loop_transmission))
layout ExtendedLoopPointsRequest = row (0x05 ∷ 0x07 ∷ []) (end (u14 ⊗ loop_requested named loop_request))
-- 06 01 identity request
layout IdentityRequest = row (0x06 ∷ 0x01 ∷ []) (end nothing)
-- 06 02 reply: maker, family, member (u14 each), four u7
layout IdentityReply = row (0x06 ∷ 0x02 ∷ []) identity_reply
-- 07 01 file header: sender device, four type bytes, length (u28), name
layout FileDumpHeader = with_text (row (0x07 ∷ 0x01 ∷ []) (device ⊗w file_type ⊗w u28 ⊗w file_name namedW file_header)) 9 (λ f. f.name)
-- 07 02 file packet: count (u7), n + n div 7, packed data; cs
layout FileDumpPacket = with_data (row_cs (0x07 ∷ 0x02 ∷ []) (u7 ⊗w packed namedW file_packet)) (λ f. f.file_data)
-- 07 03 request: device, type, name
layout FileDumpRequest = with_text (row (0x07 ∷ 0x03 ∷ []) (device ⊗w file_type ⊗w file_name namedW file_request)) 5 (λ f. f.name)
-- 08 00 bulk request: program
layout TuningBulkDumpRequest = row (0x08 ∷ 0x00 ∷ []) (end u7)
-- 08 01 key dump: program, 16 name bytes, 128 tunings, cs
layout KeyBasedTuningDump = with_entries (with_text (row_cs (0x08 ∷ 0x01 ∷ []) (end (u7 ⊗ name_of_16 ⊗ keys named key_dump))) 1 (λ f. f.name)) (λ f. map tuning_entry f.tunings)
-- 08 03: bank, program
layout BankTuningBulkDumpRequest = row (0x08 ∷ 0x03 ∷ []) (end (u7 ⊗ u7 named bank_request))
-- 08 04 the same after a bank byte
layout BankKeyBasedTuningDump = with_entries (with_text (row_cs (0x08 ∷ 0x04 ∷ []) (end (u7 ⊗ u7 ⊗ name_of_16 ⊗ keys named bank_key_dump))) 2 (λ f. f.name)) (λ f. map tuning_entry f.tunings)
-- 08 05, 08 06 scale dump: bank, program, name, twelve signed 7 or signed 14, cs
layout ScaleTuningDump1Byte = with_text (row_cs (0x08 ∷ 0x05 ∷ []) (end (u7 ⊗ u7 ⊗ name_of_16 ⊗ scale_1 named scale_dump))) 2 (λ f. f.name)
layout ScaleTuningDump2Byte = with_text (row_cs (0x08 ∷ 0x06 ∷ []) (end (u7 ⊗ u7 ⊗ name_of_16 ⊗ scale_2 named scale_dump))) 2 (λ f. f.name)
-- 08 07 note change: bank (00 if none), program, number of entries, each a key (u7) and a tuning
layout TuningNoteChange = with_entries (row (0x08 ∷ 0x07 ∷ []) (end (bank_or_none ⊗ u7 ⊗ note_changes named note_change))) (λ f. map change_entry f.changes)
-- 08 08, 08 09: three channel bytes, twelve values, no checksum
layout ScaleTuning1Byte = row (0x08 ∷ 0x08 ∷ []) (end (channels ⊗ scale_1 named scale_tuning))
layout ScaleTuning2Byte = row (0x08 ∷ 0x09 ∷ []) (end (channels ⊗ scale_2 named scale_tuning))
-- 09 01, 09 02, 09 03: General MIDI 1, off, General MIDI 2
layout GeneralMidi1 = row (0x09 ∷ 0x01 ∷ []) (end nothing)
layout GeneralMidiOff = row (0x09 ∷ 0x02 ∷ []) (end nothing)
layout GeneralMidi2 = row (0x09 ∷ 0x03 ∷ []) (end nothing)
-- 0B 01 open: context nn, length nn, type "DLS ", "SF2 " or "WAV ", URL (first 260 bytes), 00
layout FileReferenceOpen = with_text (row (0x0B ∷ 0x01 ∷ []) (u14 ⊗w sized (λ x. length (type_url.bytes x)) type_url type_url_short namedW file_open)) 8 (λ f. f.url)
-- 0B 02 select: nn, length, map
layout SelectSoundFile = with_entries (row_for is_bank (0x0B ∷ 0x02 ∷ []) (u14 ⊗w sized bank_length bank_select bank_short namedW select)) (λ f. bank_entries f.map)
layout SelectWAV = row_for is_wav (0x0B ∷ 0x02 ∷ []) (u14 ⊗w sized wav_length wav_select wav_short namedW select)
-- 0B 03: as 0B 01 with a map after it
layout FileReferenceOpenSelect = with_entries (with_text (row (0x0B ∷ 0x03 ∷ []) (u14 ⊗w sized open_length type_url_map open_short namedW open_select)) 8 (λ f. f.url)) (λ f. select_entries f.map)
-- 0B 04 close: nn, 00 00
layout FileReferenceClose = row (0x0B ∷ 0x04 ∷ []) (end (u14 ⊗ zero_then (zero_then nothing) named close_context))
-- 7B end of file, 7C wait, 7D cancel: 00
layout EOF = row (0x7B ∷ []) (end (zero_then nothing))
layout Wait = row (0x7C ∷ []) (end (zero_then nothing))
layout Cancel = row (0x7D ∷ []) (end (zero_then nothing))
-- 7E NAK, 7F ACK: packet number (u7)
layout NAK = row (0x7E ∷ []) (end u7)
layout ACK = row (0x7F ∷ []) (end u7)

-- the bytes of a head
abbrev pub code : Head → List ℕ
code h = (layout h).head_bytes

-- whether a checksum ends a head's fields
abbrev pub summed : Head → Bool
summed h = (layout h).has_sum

-- whether a head is read for a kind
abbrev pub reads : Kind → Head → Bool
reads k h = (layout h).read_for k

abbrev pub all_heads : List Head
all_heads = SampleDumpHeader ∷ SampleDumpPacket ∷ SampleDumpRequest ∷ LoopPointTransmission ∷ LoopPointsRequest ∷ SampleName ∷ SampleNameRequest ∷ ExtendedHeader ∷ ExtendedLoopPointTransmission ∷ ExtendedLoopPointsRequest ∷ IdentityRequest ∷ IdentityReply ∷ FileDumpHeader ∷ FileDumpPacket ∷ FileDumpRequest ∷ TuningBulkDumpRequest ∷ KeyBasedTuningDump ∷ BankTuningBulkDumpRequest ∷ BankKeyBasedTuningDump ∷ ScaleTuningDump1Byte ∷ ScaleTuningDump2Byte ∷ TuningNoteChange ∷ ScaleTuning1Byte ∷ ScaleTuning2Byte ∷ GeneralMidi1 ∷ GeneralMidiOff ∷ GeneralMidi2 ∷ FileReferenceOpen ∷ SelectSoundFile ∷ SelectWAV ∷ FileReferenceOpenSelect ∷ FileReferenceClose ∷ EOF ∷ Wait ∷ Cancel ∷ NAK ∷ ACK ∷ []

abbrev pub Fields : Head → Type 0
Fields h = (layout h).Fields

abbrev pub form : (h : Head) → Whole (Fields h)
form h = (layout h).form

-- how many bytes of a head's fields stand before the text
abbrev pub text_at : Head → ℕ
text_at h = (layout h).text_at

-- the text of a head's fields
abbrev pub text_in : (h : Head) → Fields h → List ℕ
text_in h f = (layout h).text_of f

-- the file data of a head's fields
abbrev pub file_data_in : (h : Head) → Fields h → List ℕ
file_data_in h f = (layout h).file_data_of f

-- the entries of a head's fields
abbrev pub entries_in : (h : Head) → Fields h → List ℕ
entries_in h f = (layout h).entries_of f
