-- The name, URL or sample bytes of a message are the part that it was made of, where its head has such bytes.
-- Assumes nothing.
use mathlib.Core.Path.{◌≡◌, refl}
use mathlib.Core.List.{List, []}
use Prim.Native.Nat.{ℕ}
use lib.Dec.{eqb}
use Rattle.util.specs.Pick.{pick}
use Rattle.messages.specs.declared.sample_dump.SampleDumpMsg.{SampleDumpMsg}
use Rattle.messages.specs.declared.sample_dump.SampleDumpMsg.TheVariants as sample
use Rattle.messages.specs.declared.sample_dump.ExtendedSampleDumpMsg.{ExtendedSampleDumpMsg}
use Rattle.messages.specs.declared.sample_dump.ExtendedSampleDumpMsg.TheVariants as extended
use Rattle.messages.specs.declared.file_dump.FileDumpMsg.{FileDumpMsg}
use Rattle.messages.specs.declared.file_dump.FileDumpMsg.TheVariants as file
use Rattle.std.specs.Prelude.{Option, Some, None}
use Rattle.messages.specs.declared.general_midi.GeneralMidi.{GeneralMidi}
use Rattle.messages.specs.declared.general_midi.GeneralMidi.TheVariants.{GM1, Off, GM2}
use Rattle.messages.specs.declared.file_reference.SelectMap.{SelectMap}
use Rattle.messages.specs.declared.file_reference.SelectMap.TheVariants as select
use Rattle.messages.specs.declared.file_reference.FileReferenceMsg.{FileReferenceMsg}
use Rattle.messages.specs.declared.file_reference.FileReferenceMsg.TheVariants as reference
use Rattle.messages.specs.declared.system_exclusive.DeviceID.{DeviceID}
use Rattle.messages.specs.declared.system_exclusive.UniversalNonRealTimeMsg.{UniversalNonRealTimeMsg}
use Rattle.messages.specs.declared.system_exclusive.UniversalNonRealTimeMsg.TheVariants as msg
use Rattle.messages.specs.Layouts.{text_at}
use Rattle.messages.specs.Messages.{text}
use Rattle.messages.specs.MessageOf.{head_of, message_of}
use Rattle.read_places.specs.Found.{text_from}

-- the part, or nothing where the head has no text
abbrev pub text_of : UniversalNonRealTimeMsg → List ℕ → List ℕ
text_of m part = pick (eqb (text_at (head_of m)) 0) [] part

module _ (d : DeviceID) (part dat es : List ℕ) where
  abbrev Same : UniversalNonRealTimeMsg → Type 0
  Same m = text (message_of d m (text_from m part dat) es) ≡ text_of m part

  text_sample : (m : SampleDumpMsg) → Same (msg.SampleDump m)
  text_sample (sample.Header n x p l a e t) = refl
  text_sample (sample.Packet c) = refl
  text_sample (sample.Request n) = refl
  text_sample (sample.LoopPointTransmission n i t a e) = refl
  text_sample (sample.LoopPointsRequest n i) = refl

  text_extended : (m : ExtendedSampleDumpMsg) → Same (msg.ExtendedSampleDump m)
  text_extended (extended.SampleName n) = refl
  text_extended (extended.SampleNameRequest n) = refl
  text_extended (extended.Header n x w r l a e t c) = refl
  text_extended (extended.LoopPointTransmission n i t a e) = refl
  text_extended (extended.LoopPointsRequest n i) = refl

  text_filed : (m : FileDumpMsg) → Same (msg.FileDump m)
  text_filed (file.Header d t l) = refl
  text_filed (file.Packet c) = refl
  text_filed (file.Request d t) = refl

  text_request : (b : Option ℕ) (p : ℕ) → Same (msg.TuningBulkDumpRequest b p)
  text_request None p = refl
  text_request (Some b) p = refl

  text_keys : (b : Option ℕ) (p : ℕ) → Same (msg.KeyBasedTuningDump (record { tuning_bank_num = b; tuning_program_num = p }))
  text_keys None p = refl
  text_keys (Some b) p = refl

  text_midi : (g : GeneralMidi) → Same (msg.GeneralMidi g)
  text_midi GM1 = refl
  text_midi Off = refl
  text_midi GM2 = refl

  text_selected : (c : ℕ) (m : SelectMap) → Same (msg.FileReference (reference.SelectContents c m))
  text_selected c select.SoundFile = refl
  text_selected c (select.WAV m) = refl
  text_selected c (select.SoundFileBankOffset o b) = refl
  text_selected c (select.WAVBankOffset m o b) = refl

  text_referenced : (m : FileReferenceMsg) → Same (msg.FileReference m)
  text_referenced (reference.Open c t) = refl
  text_referenced (reference.SelectContents c m) = text_selected c m
  text_referenced (reference.OpenSelectContents c t m) = refl
  text_referenced (reference.Close c) = refl

  pub text_said : (m : UniversalNonRealTimeMsg) → Same m
  text_said (msg.SampleDump m) = text_sample m
  text_said (msg.ExtendedSampleDump m) = text_extended m
  text_said msg.IdentityRequest = refl
  text_said (msg.IdentityReply r) = refl
  text_said (msg.FileDump m) = text_filed m
  text_said (msg.TuningBulkDumpRequest b p) = text_request b p
  text_said (msg.KeyBasedTuningDump k) = text_keys k.tuning_bank_num k.tuning_program_num
  text_said (msg.ScaleTuningDump1Byte s) = refl
  text_said (msg.ScaleTuningDump2Byte s) = refl
  text_said (msg.TuningNoteChange c) = refl
  text_said (msg.ScaleTuning1Byte s) = refl
  text_said (msg.ScaleTuning2Byte s) = refl
  text_said (msg.GeneralMidi g) = text_midi g
  text_said (msg.FileReference m) = text_referenced m
  text_said msg.EOF = refl
  text_said msg.Wait = refl
  text_said msg.Cancel = refl
  text_said (msg.NAK n) = refl
  text_said (msg.ACK n) = refl
