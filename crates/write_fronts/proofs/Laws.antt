-- Laws of the fields of a front, of its length and of the length of a map.
-- Assumes nothing.
use mathlib.Core.Path.{◌≡◌, refl, ap, ap₂, ◌∙◌}
use mathlib.Core.List.{List, [], ◌∷◌, ◌++◌}
use Prim.Native.Nat.{ℕ, ◌≤◌}
use native.Mathlib.Omega.{arith}
use lib.ListN.{length}
use Rattle.util.specs.Groups.{groups}
use Rattle.util.specs.Splice.{overwritten}
use Rattle.messages.specs.declared.system_exclusive.ManufacturerID.{ManufacturerID}
use Rattle.messages.specs.declared.sample_dump.SampleDumpMsg.{SampleDumpMsg}
use Rattle.messages.specs.declared.sample_dump.ExtendedSampleDumpMsg.{ExtendedSampleDumpMsg}
use Rattle.messages.specs.declared.file_dump.FileDumpMsg.{FileDumpMsg}
use Rattle.std.specs.Prelude.{Option, Some, None}
use Rattle.messages.specs.declared.general_midi.GeneralMidi.{GeneralMidi}
use Rattle.messages.specs.declared.file_reference.FileReferenceMsg.{FileReferenceMsg}
use Rattle.messages.specs.declared.system_exclusive.UniversalNonRealTimeMsg.{UniversalNonRealTimeMsg}
use Rattle.messages.specs.declared.system_exclusive.ManufacturerID.TheVariants.{OneByte, Extended}
use Rattle.messages.specs.declared.sample_dump.SampleDumpMsg.TheVariants as sample
use Rattle.messages.specs.declared.sample_dump.ExtendedSampleDumpMsg.TheVariants as extended
use Rattle.messages.specs.declared.file_dump.FileDumpMsg.TheVariants as file
use Rattle.messages.specs.declared.general_midi.GeneralMidi.TheVariants.{GM1, Off, GM2}
use Rattle.messages.specs.declared.file_reference.FileReferenceMsg.TheVariants as reference
use Rattle.messages.specs.declared.system_exclusive.UniversalNonRealTimeMsg.TheVariants as msg
use Rattle.write_fronts.specs.Fronts.{front_sample, front_extended, front_maker, front_file, front_banked, front_midi, front_reference, front_of}
use Rattle.write_fronts.specs.Sizes.{size_sample, size_extended, size_maker, size_file, size_bank, size_reference, front_size}

-- after the last field
pub done : ◌≡◌ {A = List ℕ} [] []
done = refl

-- a byte of the head, with the fields after it
pub code : (b : ℕ) {l m : List ℕ} → l ≡ m → b ∷ l ≡ b ∷ m
code b f = ap (λ (y : List ℕ). b ∷ y) f

-- a byte of a field, with the bytes after it
pub byte : {r v : ℕ} {l m : List ℕ} → r ≡ v → l ≡ m → r ∷ l ≡ v ∷ m
byte e f = ap₂ (λ (x : ℕ) (y : List ℕ). x ∷ y) e f

-- a field of k groups, with the fields after it
pub field : (k : ℕ) {r v : ℕ} {l m : List ℕ} → r ≡ v → l ≡ m → groups k r ++ l ≡ groups k v ++ m
field k e f = ap₂ (λ (x : ℕ) (y : List ℕ). groups k x ++ y) e f

-- bytes written that are those of a front
pub put : {bs cs ys : List ℕ} (xs : List ℕ) → bs ≡ cs → ys ≡ overwritten bs xs → ys ≡ overwritten cs xs
put xs f e = e ∙ ap (λ (l : List ℕ). overwritten l xs) f

-- ---- how long the front of a message is

sample_length : (d : ℕ) (m : SampleDumpMsg) → length (front_sample d m) ≡ size_sample m
sample_length d (sample.Header n f p l s e t) = refl
sample_length d (sample.Packet c) = refl
sample_length d (sample.Request n) = refl
sample_length d (sample.LoopPointTransmission n i t s e) = refl
sample_length d (sample.LoopPointsRequest n i) = refl

extended_length : (d : ℕ) (m : ExtendedSampleDumpMsg) → length (front_extended d m) ≡ size_extended m
extended_length d (extended.SampleName n) = refl
extended_length d (extended.SampleNameRequest n) = refl
extended_length d (extended.Header n f w r l s e t c) = refl
extended_length d (extended.LoopPointTransmission n i t s e) = refl
extended_length d (extended.LoopPointsRequest n i) = refl

maker_length : (d a b p q r s : ℕ) (m : ManufacturerID)
    → length (front_maker d m ((2, a) ∷ (2, b) ∷ (1, p) ∷ (1, q) ∷ (1, r) ∷ (1, s) ∷ [])) ≡ size_maker m
maker_length d a b p q r s (OneByte k) = refl
maker_length d a b p q r s (Extended k l) = refl

file_length : (d : ℕ) (m : FileDumpMsg) → length (front_file d m) ≡ size_file m
file_length d (file.Header s t l) = refl
file_length d (file.Packet c) = refl
file_length d (file.Request r t) = refl

banked_length : (d without with p : ℕ) (b : Option ℕ) → length (front_banked d without with b p) ≡ size_bank b
banked_length d without with p None = refl
banked_length d without with p (Some b) = refl

midi_length : (d : ℕ) (g : GeneralMidi) → length (front_midi d g) ≡ 4
midi_length d GM1 = refl
midi_length d Off = refl
midi_length d GM2 = refl

reference_length : (d : ℕ) (m : FileReferenceMsg) (x y : ℕ) → length (front_reference d m x y) ≡ size_reference m
reference_length d (reference.Open c t) x y = refl
reference_length d (reference.SelectContents c m) x y = refl
reference_length d (reference.OpenSelectContents c t m) x y = refl
reference_length d (reference.Close c) x y = refl

pub front_length : (d : ℕ) (m : UniversalNonRealTimeMsg) (x y : ℕ) → length (front_of d m x y) ≡ front_size m
front_length d (msg.SampleDump m) x y = sample_length d m
front_length d (msg.ExtendedSampleDump m) x y = extended_length d m
front_length d msg.IdentityRequest x y = refl
front_length d (msg.IdentityReply r) x y =
    maker_length d r.family r.family_member r.software_revision.0 r.software_revision.1
    r.software_revision.2 r.software_revision.3 r.id
front_length d (msg.FileDump m) x y = file_length d m
front_length d (msg.TuningBulkDumpRequest b p) x y = banked_length d 0 3 p b
front_length d (msg.KeyBasedTuningDump k) x y = banked_length d 1 4 k.tuning_program_num k.tuning_bank_num
front_length d (msg.ScaleTuningDump1Byte s) x y = refl
front_length d (msg.ScaleTuningDump2Byte s) x y = refl
front_length d (msg.TuningNoteChange c) x y = refl
front_length d (msg.ScaleTuning1Byte s) x y = refl
front_length d (msg.ScaleTuning2Byte s) x y = refl
front_length d (msg.GeneralMidi g) x y = midi_length d g
front_length d (msg.FileReference m) x y = reference_length d m x y
front_length d msg.EOF x y = refl
front_length d msg.Wait x y = refl
front_length d msg.Cancel x y = refl
front_length d (msg.NAK n) x y = refl
front_length d (msg.ACK n) x y = refl

maker_small : (m : ManufacturerID) → size_maker m ≤ 32
maker_small (OneByte k) = omega arith
maker_small (Extended k l) = omega arith

bank_small : (b : Option ℕ) → size_bank b ≤ 32
bank_small None = omega arith
bank_small (Some b) = omega arith

-- no front is longer than 32 bytes
pub front_small : (m : UniversalNonRealTimeMsg) → front_size m ≤ 32
front_small (msg.SampleDump (sample.Header n f p l s e t)) = omega arith
front_small (msg.SampleDump (sample.Packet c)) = omega arith
front_small (msg.SampleDump (sample.Request n)) = omega arith
front_small (msg.SampleDump (sample.LoopPointTransmission n i t s e)) = omega arith
front_small (msg.SampleDump (sample.LoopPointsRequest n i)) = omega arith
front_small (msg.ExtendedSampleDump (extended.SampleName n)) = omega arith
front_small (msg.ExtendedSampleDump (extended.SampleNameRequest n)) = omega arith
front_small (msg.ExtendedSampleDump (extended.Header n f w r l s e t c)) = omega arith
front_small (msg.ExtendedSampleDump (extended.LoopPointTransmission n i t s e)) = omega arith
front_small (msg.ExtendedSampleDump (extended.LoopPointsRequest n i)) = omega arith
front_small msg.IdentityRequest = omega arith
front_small (msg.IdentityReply r) = maker_small r.id
front_small (msg.FileDump (file.Header s t l)) = omega arith
front_small (msg.FileDump (file.Packet c)) = omega arith
front_small (msg.FileDump (file.Request r t)) = omega arith
front_small (msg.TuningBulkDumpRequest b p) = bank_small b
front_small (msg.KeyBasedTuningDump k) = bank_small k.tuning_bank_num
front_small (msg.ScaleTuningDump1Byte s) = omega arith
front_small (msg.ScaleTuningDump2Byte s) = omega arith
front_small (msg.TuningNoteChange c) = omega arith
front_small (msg.ScaleTuning1Byte s) = omega arith
front_small (msg.ScaleTuning2Byte s) = omega arith
front_small (msg.GeneralMidi g) = omega arith
front_small (msg.FileReference (reference.Open c t)) = omega arith
front_small (msg.FileReference (reference.SelectContents c m)) = omega arith
front_small (msg.FileReference (reference.OpenSelectContents c t m)) = omega arith
front_small (msg.FileReference (reference.Close c)) = omega arith
front_small msg.EOF = omega arith
front_small msg.Wait = omega arith
front_small msg.Cancel = omega arith
front_small (msg.NAK n) = omega arith
front_small (msg.ACK n) = omega arith
