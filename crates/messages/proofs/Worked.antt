-- The worked frames of 01 ("Frames worked out"), and a frame for each kind of field that the laws do not pin, held against the definitions.
-- Assumes nothing.
use mathlib.Core.Path.{◌≡◌, refl}
use mathlib.Core.Bool.{true}
use mathlib.Core.List.{List, [], ◌∷◌, ◌++◌}
use Prim.Native.Nat.{ℕ}
use lib.IntN.{pos, negsuc}
use lib.ListN.{get_or, take, drop, replicate}
use Rattle.std.specs.declared.option.Option.TheVariants.{None, Some}
use Rattle.std.specs.declared.result.Result.{Result}
use Rattle.std.specs.declared.result.Result.TheVariants.{Ok, Err}
use Rattle.messages.specs.Types.{Refusal, Kind, WAVMap, ManufacturerID, IdentityReply}
use Rattle.util.specs.declared.refusal.Refusal.TheVariants.{High, Long, Value, Shape, Field, Sum}
use Rattle.util.specs.declared.refusal.Refusal.TheVariants as R
use Rattle.messages.specs.declared.file_reference.Kind.TheVariants as kind
use Rattle.messages.specs.declared.file_reference.FileReferenceType.TheVariants.{DLS}
use Rattle.messages.specs.declared.file_reference.SelectMap.TheVariants as select
use Rattle.messages.specs.declared.file_reference.FileReferenceMsg.TheVariants as reference
use Rattle.messages.specs.declared.file_dump.FileDumpMsg.TheVariants as file
use Rattle.messages.specs.declared.file_dump.FileType.TheVariants.{MIDI, MAC, Custom}
use Rattle.messages.specs.declared.sample_dump.SampleDumpMsg.TheVariants as sample
use Rattle.messages.specs.declared.sample_dump.ExtendedSampleDumpMsg.TheVariants as extended
use Rattle.messages.specs.declared.sample_dump.LoopType.TheVariants.{Off}
use Rattle.messages.specs.declared.sample_dump.LoopNumber.TheVariants.{Loop, RequestAll, DeleteAll}
use Rattle.messages.specs.declared.sample_dump.ExtendedLoopType.TheVariants.{Backward, OneShot}
use Rattle.messages.specs.declared.system_exclusive.DeviceID.TheVariants.{Device, AllCall}
use Rattle.messages.specs.declared.system_exclusive.ManufacturerID.TheVariants.{OneByte, Extended}
use Rattle.messages.specs.declared.system_exclusive.UniversalNonRealTimeMsg.TheVariants as msg
use Rattle.messages.specs.Messages.{Message, Answer, refused, given, refusal, settle, write_of, read_of}
use Rattle.messages.specs.MessageOf.{message_of}
use Rattle.messages.specs.Identity.{identity_of}
use Rattle.messages.specs.Walk.{Stretch, low_run, stretches, is_frame, frames}

-- a line of a table: the number of the frame in 01 (0 for one that is not there), and what it claims
pub data Line : Type 0 where
  writes : ℕ → Message → List ℕ → Line
  byte : ℕ → Message → ℕ → ℕ → Line
  slice : ℕ → Message → ℕ → ℕ → List ℕ → Line
  refuses : ℕ → Message → Refusal → Line
  reads : ℕ → Kind → List ℕ → Message → Line
  refuses_read : ℕ → Kind → List ℕ → Refusal → Line
  lists : ℕ → Kind → List ℕ → List Stretch → Line
  settles : Message → Message → Line
  identity : List ℕ → Result IdentityReply Refusal → Line

-- the bytes of a frame
abbrev pub frame_bytes : Answer (List ℕ) → List ℕ
frame_bytes (refused r) = []
frame_bytes (given bs) = bs

abbrev pub Holds : Line → Type 0
Holds (writes n m bs) = write_of m ≡ given bs
Holds (byte n m i b) = get_or (frame_bytes (write_of m)) i 0 ≡ b
Holds (slice n m i k bs) = take k (drop i (frame_bytes (write_of m))) ≡ bs
Holds (refuses n m r) = write_of m ≡ refused r
Holds (reads n k bs m) = read_of k bs ≡ given m
Holds (refuses_read n k bs r) = read_of k bs ≡ refused r
Holds (lists n k s l) = frames k s ≡ l
Holds (settles m n) = settle m ≡ n
Holds (identity l a) = identity_of l ≡ a

abbrev pub All : List Line → Type 0
All [] = Unit {0}
All (l ∷ ls) = Holds l × All ls

-- ---- the starred frames

abbrev pub file_packet : List ℕ → Message
file_packet l = message_of (Device 0) (msg.FileDump (file.Packet 0)) l []

abbrev pub eight : List ℕ
eight = 0xF0 ∷ 0x7E ∷ 0x00 ∷ 0x0B ∷ 0x02 ∷ 0x00 ∷ 0x00 ∷ 0x09 ∷ 0x00 ∷ 0x01 ∷ 0x00 ∷ 0x00 ∷ 0x00 ∷ 0x00 ∷ 0x00 ∷ 0x00 ∷ 0x00 ∷ 0x7F ∷ 0xF7 ∷ []

abbrev pub eight_bank : Message
eight_bank = message_of (Device 0) (msg.FileReference (reference.SelectContents 0 select.SoundFile)) [] (127 ∷ [])

abbrev pub eight_map : WAVMap
eight_map = record { dst_bank = 1; dst_prog = 0; base = 0; lokey = 0; hikey = 0; fine = negsuc 8191; volume = 127 }

abbrev pub eight_wav : Message
eight_wav = message_of (Device 0) (msg.FileReference (reference.SelectContents 0 (select.WAV eight_map))) [] []

abbrev pub nine : List ℕ
nine = 0x90 ∷ 0x3C ∷ 0xF0 ∷ 0x7E ∷ 0x00 ∷ 0xF0 ∷ 0x7E ∷ 0x00 ∷ 0x7B ∷ 0x00 ∷ 0xF7 ∷ 0xF7 ∷ []

pub starred :
    All
    (writes 1 (message_of AllCall msg.IdentityRequest [] []) (0xF0 ∷ 0x7E ∷ 0x7F ∷ 0x06 ∷ 0x01 ∷ 0xF7 ∷ [])
    ∷ writes 2 (message_of (Device 200) (msg.NAK 200) [] []) (0xF0 ∷ 0x7E ∷ 0x7F ∷ 0x7E ∷ 0x7F ∷ 0xF7 ∷ [])
    ∷ writes 3 (message_of (Device 1) (msg.SampleDump (sample.Request 300)) [] []) (0xF0 ∷ 0x7E ∷ 0x01 ∷ 0x03 ∷ 0x2C ∷ 0x02 ∷ 0xF7 ∷ [])
    ∷ writes 4 (message_of (Device 0) (msg.SampleDump (sample.Header 1 40 22675 1000 0 2097152 Off)) [] []) (0xF0 ∷ 0x7E ∷ 0x00 ∷ 0x01 ∷ 0x01 ∷ 0x00 ∷ 0x1C ∷ 0x13 ∷ 0x31 ∷ 0x01 ∷ 0x68 ∷ 0x07 ∷ 0x00 ∷ 0x00 ∷ 0x00 ∷ 0x00 ∷ 0x7F ∷ 0x7F ∷ 0x7F ∷ 0x7F ∷ 0xF7 ∷ [])
    ∷ writes 5 (file_packet (0xFF ∷ [])) (0xF0 ∷ 0x7E ∷ 0x00 ∷ 0x07 ∷ 0x02 ∷ 0x00 ∷ 0x01 ∷ 0x40 ∷ 0x7F ∷ 0x45 ∷ 0xF7 ∷ [])
    ∷ byte 5 (file_packet (replicate 111 0)) 6 126
    ∷ refuses 5 (file_packet (replicate 112 0)) Long
    ∷ writes 6 (message_of (Device 0) (msg.FileReference (reference.Close 16384)) [] []) (0xF0 ∷ 0x7E ∷ 0x00 ∷ 0x0B ∷ 0x04 ∷ 0x7F ∷ 0x7F ∷ 0x00 ∷ 0x00 ∷ 0xF7 ∷ [])
    ∷ writes 7 (message_of (Device 0) (msg.FileReference (reference.SelectContents 1 select.SoundFile)) [] []) (0xF0 ∷ 0x7E ∷ 0x00 ∷ 0x0B ∷ 0x02 ∷ 0x01 ∷ 0x00 ∷ 0x01 ∷ 0x00 ∷ 0x00 ∷ 0xF7 ∷ [])
    ∷ writes 8 eight_bank eight
    ∷ writes 8 eight_wav eight
    ∷ reads 8 kind.Bank eight eight_bank
    ∷ reads 8 kind.WAV eight eight_wav
    ∷ lists 9 kind.Bank nine ((5, 6) ∷ [])
    ∷ lists 9 kind.WAV nine ((5, 6) ∷ [])
    ∷ lists 9 kind.Bank [] []
    ∷ lists 9 kind.WAV [] []
    ∷ [])
unfolding write_of refusal settle read_of low_run stretches is_frame
starred = (refl, (refl, (refl, (refl, (refl, (refl, (refl, (refl, (refl, (refl, (refl, (refl, (refl, (refl, (refl, (refl, (refl, tt)))))))))))))))))

-- ---- a frame for each kind of field, and the refusals

abbrev pub scale_dump : List ℕ → Message
scale_dump name = message_of (Device 0) (msg.ScaleTuningDump1Byte (record { tuning_bank_num = 0; tuning_program_num = 0; tuning = replicate 12 (pos 0) })) name []

abbrev pub file_header : ℕ → List ℕ → Message
file_header length name = message_of (Device 0) (msg.FileDump (file.Header AllCall MIDI length)) name []

pub field_kinds :
    All
    ( -- a tuning's fraction, high group first; no tuning; a note change without a bank
    writes 0 (message_of (Device 0) (msg.TuningNoteChange (record { tuning_bank_num = None; tuning_program_num = 5 })) [] (2030043136 ∷ 2050818348 ∷ [])) (0xF0 ∷ 0x7E ∷ 0x00 ∷ 0x08 ∷ 0x07 ∷ 0x00 ∷ 0x05 ∷ 0x02 ∷ 0x3C ∷ 0x7F ∷ 0x7F ∷ 0x7F ∷ 0x3D ∷ 0x3D ∷ 0x02 ∷ 0x2C ∷ 0xF7 ∷ [])
    -- channels 1, 9 and 16; signed 14 at both ends, below its range and about 0
    ∷ writes 0 (message_of (Device 0) (msg.ScaleTuning2Byte (record { channels = record { channels = 33025 }; tuning = negsuc 8191 ∷ negsuc 0 ∷ pos 0 ∷ pos 8191 ∷ negsuc 8192 ∷ replicate 7 (pos 0) })) [] []) (0xF0 ∷ 0x7E ∷ 0x00 ∷ 0x08 ∷ 0x09 ∷ 0x02 ∷ 0x02 ∷ 0x01 ∷ 0x00 ∷ 0x00 ∷ 0x7F ∷ 0x3F ∷ 0x00 ∷ 0x40 ∷ 0x7F ∷ 0x7F ∷ 0x00 ∷ 0x00 ∷ 0x00 ∷ 0x40 ∷ 0x00 ∷ 0x40 ∷ 0x00 ∷ 0x40 ∷ 0x00 ∷ 0x40 ∷ 0x00 ∷ 0x40 ∷ 0x00 ∷ 0x40 ∷ 0x00 ∷ 0x40 ∷ 0xF7 ∷ [])
    -- u35: 2^28, and 2^35 held
    ∷ writes 0 (message_of (Device 0) (msg.ExtendedSampleDump (extended.LoopPointTransmission 1 (Loop 2) Backward 268435456 34359738368)) [] []) (0xF0 ∷ 0x7E ∷ 0x00 ∷ 0x05 ∷ 0x06 ∷ 0x01 ∷ 0x00 ∷ 0x02 ∷ 0x00 ∷ 0x40 ∷ 0x00 ∷ 0x00 ∷ 0x00 ∷ 0x00 ∷ 0x01 ∷ 0x7F ∷ 0x7F ∷ 0x7F ∷ 0x7F ∷ 0x7F ∷ 0xF7 ∷ [])
    -- eight bytes of file data
    ∷ writes 0 (message_of (Device 0) (msg.FileDump (file.Packet 3)) (0x80 ∷ 0x01 ∷ 0x82 ∷ 0x03 ∷ 0x84 ∷ 0x05 ∷ 0x86 ∷ 0x87 ∷ []) []) (0xF0 ∷ 0x7E ∷ 0x00 ∷ 0x07 ∷ 0x02 ∷ 0x03 ∷ 0x09 ∷ 0x55 ∷ 0x00 ∷ 0x01 ∷ 0x02 ∷ 0x03 ∷ 0x04 ∷ 0x05 ∷ 0x06 ∷ 0x40 ∷ 0x07 ∷ 0x64 ∷ 0xF7 ∷ [])
    -- a WAV map with an offset: length 15, 16 bytes follow
    ∷ writes 0 (message_of (Device 0) (msg.FileReference (reference.SelectContents 5 (select.WAVBankOffset (record { dst_bank = 300; dst_prog = 1; base = 60; lokey = 10; hikey = 100; fine = negsuc 0; volume = 90 }) 130 true))) [] []) (0xF0 ∷ 0x7E ∷ 0x00 ∷ 0x0B ∷ 0x02 ∷ 0x05 ∷ 0x00 ∷ 0x0F ∷ 0x00 ∷ 0x2C ∷ 0x02 ∷ 0x01 ∷ 0x3C ∷ 0x0A ∷ 0x64 ∷ 0x7F ∷ 0x3F ∷ 0x5A ∷ 0x00 ∷ 0x00 ∷ 0x01 ∷ 0x03 ∷ 0x02 ∷ 0x01 ∷ 0x01 ∷ 0xF7 ∷ [])
    -- two bank maps: source drum, then target drum with every number held
    ∷ writes 0 (message_of (Device 0) (msg.FileReference (reference.SelectContents 0 select.SoundFile)) [] (4432407040612 ∷ 72059793061183999 ∷ [])) (0xF0 ∷ 0x7E ∷ 0x00 ∷ 0x0B ∷ 0x02 ∷ 0x00 ∷ 0x00 ∷ 0x11 ∷ 0x00 ∷ 0x02 ∷ 0x01 ∷ 0x00 ∷ 0x02 ∷ 0x03 ∷ 0x00 ∷ 0x04 ∷ 0x01 ∷ 0x64 ∷ 0x7F ∷ 0x7F ∷ 0x7F ∷ 0x00 ∷ 0x00 ∷ 0x00 ∷ 0x02 ∷ 0x7F ∷ 0xF7 ∷ [])
    -- a maker of three bytes
    ∷ writes 0 (message_of AllCall (msg.IdentityReply (record { id = Extended 0x20 0x33; family = 300; family_member = 2; software_revision = (1, 2, 3, 200) })) [] []) (0xF0 ∷ 0x7E ∷ 0x7F ∷ 0x06 ∷ 0x02 ∷ 0x00 ∷ 0x20 ∷ 0x33 ∷ 0x2C ∷ 0x02 ∷ 0x02 ∷ 0x00 ∷ 0x01 ∷ 0x02 ∷ 0x03 ∷ 0x7F ∷ 0xF7 ∷ [])
    -- a maker of one byte, held to 7C
    ∷ writes 0 (message_of AllCall (msg.IdentityReply (record { id = OneByte 0x7D; family = 0; family_member = 16384; software_revision = (1, 0, 0, 0) })) [] []) (0xF0 ∷ 0x7E ∷ 0x7F ∷ 0x06 ∷ 0x02 ∷ 0x7C ∷ 0x00 ∷ 0x00 ∷ 0x7F ∷ 0x7F ∷ 0x01 ∷ 0x00 ∷ 0x00 ∷ 0x00 ∷ 0xF7 ∷ [])
    -- a file header with a custom type and a length of four groups
    ∷ writes 0 (message_of (Device 3) (msg.FileDump (file.Header AllCall (Custom (0x41 ∷ 0x42 ∷ 0x43 ∷ 0x44 ∷ [])) 2097153)) (0x41 ∷ []) []) (0xF0 ∷ 0x7E ∷ 0x03 ∷ 0x07 ∷ 0x01 ∷ 0x7F ∷ 0x41 ∷ 0x42 ∷ 0x43 ∷ 0x44 ∷ 0x01 ∷ 0x00 ∷ 0x00 ∷ 0x01 ∷ 0x41 ∷ 0xF7 ∷ [])
    -- open and select: URL, 00, offset
    ∷ writes 0 (message_of (Device 0) (msg.FileReference (reference.OpenSelectContents 0 DLS (select.SoundFileBankOffset 130 true))) (0x61 ∷ []) []) (0xF0 ∷ 0x7E ∷ 0x00 ∷ 0x0B ∷ 0x03 ∷ 0x00 ∷ 0x00 ∷ 0x0D ∷ 0x00 ∷ 0x44 ∷ 0x4C ∷ 0x53 ∷ 0x20 ∷ 0x61 ∷ 0x00 ∷ 0x00 ∷ 0x00 ∷ 0x01 ∷ 0x03 ∷ 0x02 ∷ 0x01 ∷ 0x01 ∷ 0xF7 ∷ [])
    -- a loop number: "all"
    ∷ writes 0 (message_of (Device 0) (msg.SampleDump (sample.LoopPointsRequest 1 DeleteAll)) [] []) (0xF0 ∷ 0x7E ∷ 0x00 ∷ 0x05 ∷ 0x02 ∷ 0x01 ∷ 0x00 ∷ 0x7F ∷ 0x7F ∷ 0xF7 ∷ [])
    -- 10: the rate 44,100.5
    ∷ slice 10 (message_of (Device 0) (msg.ExtendedSampleDump (extended.Header 0 8 44100 134217728 0 0 0 OneShot 0)) [] []) 8 8 (0x44 ∷ 0x58 ∷ 0x02 ∷ 0x00 ∷ 0x00 ∷ 0x00 ∷ 0x00 ∷ 0x40 ∷ [])
    -- 11: the sums of an empty sample packet and of a scale dump
    ∷ byte 11 (message_of (Device 0) (msg.SampleDump (sample.Packet 0)) [] []) 125 0x7C
    ∷ byte 11 (scale_dump (replicate 16 0x20)) 35 0x73
    -- spare channel bits
    ∷ refuses_read 0 kind.Bank (0xF0 ∷ 0x7E ∷ 0x00 ∷ 0x08 ∷ 0x08 ∷ 0x04 ∷ 0x00 ∷ 0x00 ∷ 0x40 ∷ 0x40 ∷ 0x40 ∷ 0x40 ∷ 0x40 ∷ 0x40 ∷ 0x40 ∷ 0x40 ∷ 0x40 ∷ 0x40 ∷ 0x40 ∷ 0x40 ∷ 0xF7 ∷ []) Field
    -- a spare top bit under a good sum
    ∷ refuses_read 0 kind.Bank (0xF0 ∷ 0x7E ∷ 0x00 ∷ 0x07 ∷ 0x02 ∷ 0x00 ∷ 0x01 ∷ 0x60 ∷ 0x7F ∷ 0x65 ∷ 0xF7 ∷ []) Field
    -- a wrong sum
    ∷ refuses_read 0 kind.Bank (0xF0 ∷ 0x7E ∷ 0x00 ∷ 0x07 ∷ 0x02 ∷ 0x00 ∷ 0x01 ∷ 0x40 ∷ 0x7F ∷ 0x44 ∷ 0xF7 ∷ []) Sum
    -- a lone top byte; a head not in the table; a high byte; nine bytes that are no bank map
    ∷ refuses_read 0 kind.Bank (0xF0 ∷ 0x7E ∷ 0x00 ∷ 0x07 ∷ 0x02 ∷ 0x00 ∷ 0x00 ∷ 0x00 ∷ 0x7B ∷ 0xF7 ∷ []) Field
    ∷ refuses_read 0 kind.Bank (0xF0 ∷ 0x7E ∷ 0x00 ∷ 0x08 ∷ 0x02 ∷ 0x00 ∷ 0xF7 ∷ []) R.Head
    ∷ refuses_read 0 kind.Bank (0xF0 ∷ 0x7E ∷ 0x00 ∷ 0x06 ∷ 0x80 ∷ 0x01 ∷ 0xF7 ∷ []) Shape
    ∷ refuses_read 0 kind.Bank (0xF0 ∷ 0x7E ∷ 0x00 ∷ 0x0B ∷ 0x02 ∷ 0x00 ∷ 0x00 ∷ 0x09 ∷ 0x00 ∷ 0x02 ∷ 0x00 ∷ 0x00 ∷ 0x00 ∷ 0x00 ∷ 0x00 ∷ 0x00 ∷ 0x00 ∷ 0x7F ∷ 0xF7 ∷ []) Field
    -- of two refusals the table's first, wherever the fields stand
    ∷ refuses 0 (file_header 268435456 (200 ∷ [])) High
    ∷ refuses 0 (file_header 268435456 (replicate 1025 0)) Long
    ∷ refuses 0 (file_header 268435456 []) Value
    ∷ refuses 0 (message_of (Device 0) (msg.FileReference (reference.OpenSelectContents 0 DLS (select.WAV eight_map))) (0x61 ∷ 0 ∷ []) []) High
    ∷ refuses 0 (message_of (Device 0) (msg.FileReference (reference.OpenSelectContents 0 DLS (select.WAV eight_map))) (0x61 ∷ []) []) R.Kind
    -- HIGH looks past the cut
    ∷ refuses 0 (message_of (Device 0) (msg.ExtendedSampleDump (extended.SampleName 0)) (replicate 127 0x61 ++ (0x80 ∷ [])) []) High
    ∷ refuses 0 (message_of (Device 0) (msg.FileReference (reference.Open 0 DLS)) (replicate 260 0x61 ++ (0 ∷ [])) []) High
    -- a one-byte maker 00; 128 note changes
    ∷ refuses 0 (message_of AllCall (msg.IdentityReply (record { id = OneByte 0; family = 0; family_member = 0; software_revision = (0, 0, 0, 0) })) [] []) Value
    ∷ refuses 0 (message_of (Device 0) (msg.TuningNoteChange (record { tuning_bank_num = Some 1; tuning_program_num = 5 })) [] (replicate 128 0)) Long
    ∷ [])
unfolding write_of refusal settle read_of
field_kinds = (refl, (refl, (refl, (refl, (refl, (refl, (refl, (refl, (refl, (refl, (refl, (refl, (refl, (refl, (refl, (refl, (refl, (refl, (refl, (refl, (refl, (refl, (refl, (refl, (refl, (refl, (refl, (refl, (refl, (refl, tt))))))))))))))))))))))))))))))

-- ---- the clauses of "A settled message"

abbrev pub reply_from : ManufacturerID → Message
reply_from m =
    message_of AllCall (msg.IdentityReply (record { id = m; family = 0; family_member = 0; software_revision = (0, 0, 0, 0) })) [] []

pub settled_forms :
    All
    ( -- all call for device 127, and for a larger one
    settles (message_of (Device 127) msg.EOF [] []) (message_of AllCall msg.EOF [] [])
    ∷ settles (message_of (Device 200) msg.EOF [] []) (message_of AllCall msg.EOF [] [])
    ∷ settles (message_of (Device 126) msg.EOF [] []) (message_of (Device 126) msg.EOF [] [])
    -- a named type where the four bytes spell one
    ∷ settles (message_of AllCall (msg.FileDump (file.Request (Device 127) (Custom (0x4D ∷ 0x49 ∷ 0x44 ∷ 0x49 ∷ [])))) [] []) (message_of AllCall (msg.FileDump (file.Request AllCall MIDI)) [] [])
    -- no tuning for 7F 7F 7F, from any tuning that is held there; a bank for none
    ∷ settles (message_of AllCall (msg.TuningNoteChange (record { tuning_bank_num = None; tuning_program_num = 0 })) [] (8339455 ∷ 16777215 ∷ []))
    (message_of AllCall (msg.TuningNoteChange (record { tuning_bank_num = Some 0; tuning_program_num = 0 })) [] (16777216 ∷ 16777216 ∷ []))
    -- a maker byte held to 7C
    ∷ settles (reply_from (OneByte 0x7D)) (reply_from (OneByte 0x7C))
    -- loop number 16,383: request all in 05 02 and 05 07, delete all in 05 01 and 05 06
    ∷ settles (message_of AllCall (msg.SampleDump (sample.LoopPointsRequest 0 (Loop 16383))) [] []) (message_of AllCall (msg.SampleDump (sample.LoopPointsRequest 0 RequestAll)) [] [])
    ∷ settles (message_of AllCall (msg.ExtendedSampleDump (extended.LoopPointsRequest 0 DeleteAll)) [] []) (message_of AllCall (msg.ExtendedSampleDump (extended.LoopPointsRequest 0 RequestAll)) [] [])
    ∷ settles (message_of AllCall (msg.SampleDump (sample.LoopPointTransmission 0 (Loop 65535) Off 0 0)) [] []) (message_of AllCall (msg.SampleDump (sample.LoopPointTransmission 0 DeleteAll Off 0 0)) [] [])
    ∷ settles (message_of AllCall (msg.ExtendedSampleDump (extended.LoopPointTransmission 0 RequestAll OneShot 0 0)) [] []) (message_of AllCall (msg.ExtendedSampleDump (extended.LoopPointTransmission 0 DeleteAll OneShot 0 0)) [] [])
    -- format held to 8..28
    ∷ settles (message_of AllCall (msg.SampleDump (sample.Header 0 7 0 0 0 0 Off)) [] []) (message_of AllCall (msg.SampleDump (sample.Header 0 8 0 0 0 0 Off)) [] [])
    ∷ settles (message_of AllCall (msg.SampleDump (sample.Header 0 29 0 0 0 0 Off)) [] []) (message_of AllCall (msg.SampleDump (sample.Header 0 28 0 0 0 0 Off)) [] [])
    -- device 7F is read as all call
    ∷ reads 0 kind.Bank (0xF0 ∷ 0x7E ∷ 0x7F ∷ 0x7B ∷ 0x00 ∷ 0xF7 ∷ []) (message_of AllCall msg.EOF [] [])
    -- a note change's bank 00, and a named type, are read as such
    ∷ reads 0 kind.Bank (0xF0 ∷ 0x7E ∷ 0x00 ∷ 0x08 ∷ 0x07 ∷ 0x00 ∷ 0x00 ∷ 0x00 ∷ 0xF7 ∷ []) (message_of (Device 0) (msg.TuningNoteChange (record { tuning_bank_num = Some 0; tuning_program_num = 0 })) [] [])
    ∷ reads 0 kind.Bank (0xF0 ∷ 0x7E ∷ 0x00 ∷ 0x07 ∷ 0x03 ∷ 0x00 ∷ 0x4D ∷ 0x41 ∷ 0x43 ∷ 0x20 ∷ 0xF7 ∷ []) (message_of (Device 0) (msg.FileDump (file.Request (Device 0) MAC)) [] [])
    -- a name of another length than 16: HIGH looks at the whole of it; it is filled with spaces
    ∷ refuses 0 (scale_dump (replicate 16 0x20 ++ (0x80 ∷ []))) High
    ∷ slice 0 (scale_dump (0x41 ∷ [])) 7 3 (0x41 ∷ 0x20 ∷ 0x20 ∷ [])
    ∷ [])
unfolding write_of refusal settle read_of
settled_forms = (refl, (refl, (refl, (refl, (refl, (refl, (refl, (refl, (refl, (refl, (refl, (refl, (refl, (refl, (refl, (refl, (refl, tt)))))))))))))))))

-- ---- identity reading: a line for each clause

pub identity_readings :
    All
    ( -- no byte, one byte, another head, no maker byte
    identity [] (Err R.UnexpectedEnd)
    ∷ identity (0x06 ∷ []) (Err R.UnexpectedEnd)
    ∷ identity (0x06 ∷ 0x01 ∷ []) (Err R.NotImplemented)
    ∷ identity (0x07 ∷ 0x02 ∷ 0x80 ∷ []) (Err R.NotImplemented)
    ∷ identity (0x06 ∷ 0x02 ∷ []) (Err R.UnexpectedEnd)
    -- a maker byte over 7F; a maker byte 00 with one byte after it; either of the two over 7F
    ∷ identity (0x06 ∷ 0x02 ∷ 0x80 ∷ []) (Err R.ByteOverflow)
    ∷ identity (0x06 ∷ 0x02 ∷ 0x00 ∷ 0x80 ∷ []) (Err R.UnexpectedEnd)
    ∷ identity (0x06 ∷ 0x02 ∷ 0x00 ∷ 0x80 ∷ 0x00 ∷ []) (Err R.ByteOverflow)
    ∷ identity (0x06 ∷ 0x02 ∷ 0x00 ∷ 0x00 ∷ 0x80 ∷ []) (Err R.ByteOverflow)
    -- 7 bytes after the maker; a family or member group over 7F
    ∷ identity (0x06 ∷ 0x02 ∷ 0x41 ∷ 0x80 ∷ 0x00 ∷ 0x00 ∷ 0x00 ∷ 0x00 ∷ 0x00 ∷ 0x00 ∷ []) (Err R.UnexpectedEnd)
    ∷ identity (0x06 ∷ 0x02 ∷ 0x00 ∷ 0x20 ∷ 0x33 ∷ 0x00 ∷ 0x00 ∷ 0x00 ∷ 0x00 ∷ 0x00 ∷ 0x00 ∷ 0x00 ∷ []) (Err R.UnexpectedEnd)
    ∷ identity (0x06 ∷ 0x02 ∷ 0x41 ∷ 0x80 ∷ 0x00 ∷ 0x00 ∷ 0x00 ∷ 0x00 ∷ 0x00 ∷ 0x00 ∷ 0x00 ∷ []) (Err R.ByteOverflow)
    ∷ identity (0x06 ∷ 0x02 ∷ 0x41 ∷ 0x00 ∷ 0x00 ∷ 0x00 ∷ 0x80 ∷ 0x00 ∷ 0x00 ∷ 0x00 ∷ 0x00 ∷ []) (Err R.ByteOverflow)
    -- maker 7D is taken; revision bytes are not tested; a trailing byte is ignored
    ∷ identity (0x06 ∷ 0x02 ∷ 0x7D ∷ 0x2C ∷ 0x02 ∷ 0x02 ∷ 0x00 ∷ 0x01 ∷ 0x02 ∷ 0x03 ∷ 0xF7 ∷ 0xF7 ∷ []) (Ok (record { id = OneByte 0x7D; family = 300; family_member = 2; software_revision = (1, 2, 3, 0xF7) }))
    -- a maker of three bytes
    ∷ identity (0x06 ∷ 0x02 ∷ 0x00 ∷ 0x20 ∷ 0x33 ∷ 0x2C ∷ 0x02 ∷ 0x02 ∷ 0x00 ∷ 0x01 ∷ 0x02 ∷ 0x03 ∷ 0x04 ∷ []) (Ok (record { id = Extended 0x20 0x33; family = 300; family_member = 2; software_revision = (1, 2, 3, 4) }))
    ∷ [])
unfolding identity_of
identity_readings = (refl, (refl, (refl, (refl, (refl, (refl, (refl, (refl, (refl, (refl, (refl, (refl, (refl, (refl, (refl, tt)))))))))))))))
