-- What writing beside records promises, as propositions: the theorems of proofs/Promises have these types. What `writer` promises of every message holds of `records_message` too.
use Rattle.std.specs.Prelude.{◌≡◌, true, false, List, [], ◌∷◌, map, ℕ, ◌<◌, take}
use Rattle.util.specs.Limits.{most_counted}
use Rattle.messages.specs.declared.system_exclusive.DeviceID.{DeviceID}
use Rattle.messages.specs.declared.system_exclusive.DeviceID.TheVariants.{Device}
use Rattle.messages.specs.declared.system_exclusive.UniversalNonRealTimeMsg.TheVariants as msg
use Rattle.messages.specs.declared.file_reference.SelectMap.TheVariants as select
use Rattle.messages.specs.declared.file_reference.FileReferenceMsg.{FileReferenceMsg}
use Rattle.messages.specs.declared.file_reference.FileReferenceMsg.TheVariants as reference
use Rattle.messages.specs.declared.file_reference.SoundFileMap.{SoundFileMap}
use Rattle.messages.specs.Entries.{map_entry}
use Rattle.messages.specs.Messages.{given, write_of}
use Rattle.messages.specs.MessageOf.{message_of}
use Rattle.write_maps.specs.Records.{records_frame}

-- the numbers of a record are within their types
pub record Within (m : SoundFileMap) : Type 0 where
  pub dst_bank : m.dst_bank < 65536
  pub dst_prog : m.dst_prog < 256
  pub src_bank : m.src_bank < 65536
  pub src_prog : m.src_prog < 256
  pub volume : m.volume < 256

abbrev pub AllWithin : List SoundFileMap → Type 0
AllWithin [] = Unit {0}
AllWithin (m ∷ l) = Within m × AllWithin l

-- "Maps reach the writer as a lent list of map records": writing beside records is writing beside their entries
abbrev pub AsEntries : Type 0
AsEntries =
    (d : DeviceID) (m : FileReferenceMsg) (text : List ℕ) (l : List SoundFileMap) → AllWithin l
    → records_frame d m text l ≡ write_of (message_of d (msg.FileReference m) text (map map_entry l))

-- "number (at most 127, surplus dropped)"
abbrev pub SurplusDropped : Type 0
SurplusDropped = (d : DeviceID) (m : FileReferenceMsg) (text : List ℕ) (l : List SoundFileMap) → records_frame d m text (take most_counted l) ≡ records_frame d m text l

-- a record whose fields all differ
abbrev pub one_record : SoundFileMap
one_record = record { dst_bank = 300; dst_prog = 3; src_bank = 5; src_prog = 4; src_drum = true; dst_drum = false; volume = 100 }

-- its select: "target bank nn, program, source bank nn, program, flags: bit 0 source drum, bit 1 target drum, volume"
abbrev pub OneRecord : Type 0
OneRecord =
    records_frame (Device 0) (reference.SelectContents 1 select.SoundFile) [] (one_record ∷ [])
    ≡ given (0xF0 ∷ 0x7E ∷ 0x00 ∷ 0x0B ∷ 0x02 ∷ 0x01 ∷ 0x00 ∷ 0x09 ∷ 0x00 ∷ 0x01 ∷ 0x2C ∷ 0x02 ∷ 0x03 ∷ 0x05 ∷ 0x00 ∷ 0x04 ∷ 0x01 ∷ 0x64 ∷ 0xF7 ∷ [])
