-- The message whose bank maps are records, and what writing it gives.
use Rattle.std.specs.Prelude.{List, ℕ}
use Rattle.messages.specs.declared.system_exclusive.DeviceID.{DeviceID}
use Rattle.messages.specs.declared.file_reference.SelectMap.{SelectMap}
use Rattle.messages.specs.declared.file_reference.FileReferenceMsg.{FileReferenceMsg}
use Rattle.messages.specs.declared.file_reference.SoundFileMap.{SoundFileMap}
use Rattle.messages.specs.declared.file_reference.SelectMap.TheVariants as select
use Rattle.messages.specs.declared.file_reference.FileReferenceMsg.TheVariants as reference
use Rattle.messages.specs.Maps.{AnySelect, of_bank, of_wav, map_list, map_offset, only_wav_map, wav_map_offset}
use Rattle.messages.specs.Layouts.{Fields}
use Rattle.messages.specs.Messages.{Message, Answer, make, write_of}
use Rattle.messages.specs.MessageOf.{head_select, head_reference}

-- 0B 02: "nn, length, map", the map being the records where it is a list of bank maps
abbrev pub select_records : ℕ → (m : SelectMap) → List SoundFileMap → Fields (head_select m)
select_records c select.SoundFile l = record { context = c; map = map_list l }
select_records c (select.WAV m) l = record { context = c; map = only_wav_map m }
select_records c (select.SoundFileBankOffset o d) l = record { context = c; map = map_offset (record { bank_offset = o; drum = d }) }
select_records c (select.WAVBankOffset m o d) l = record { context = c; map = wav_map_offset m (record { bank_offset = o; drum = d }) }

-- 0B 03: "as 0B 01 with a map after it"
abbrev pub any_records : SelectMap → List SoundFileMap → AnySelect
any_records select.SoundFile l = of_bank (map_list l)
any_records (select.WAV m) l = of_wav (only_wav_map m)
any_records (select.SoundFileBankOffset o d) l = of_bank (map_offset (record { bank_offset = o; drum = d }))
any_records (select.WAVBankOffset m o d) l = of_wav (wav_map_offset m (record { bank_offset = o; drum = d }))

-- "Maps reach the writer as a lent list of map records"; what a message does not use of text and records is as if not there
abbrev pub fields_records : (m : FileReferenceMsg) → List ℕ → List SoundFileMap → Fields (head_reference m)
fields_records (reference.Open c t) text l = record { context = c; type = t; url = text }
fields_records (reference.SelectContents c m) text l = select_records c m l
fields_records (reference.OpenSelectContents c t m) text l = record { context = c; type = t; url = text; map = any_records m l }
fields_records (reference.Close c) text l = c

-- a device and a file reference, beside a lent URL and lent records
abbrev pub records_message : DeviceID → FileReferenceMsg → List ℕ → List SoundFileMap → Message
records_message d m text l = make d (head_reference m) (fields_records m text l)

-- the frame of that message, or its refusal
unfoldable pub records_frame : DeviceID → FileReferenceMsg → List ℕ → List SoundFileMap → Answer (List ℕ)
records_frame d m text l = write_of (records_message d m text l)
