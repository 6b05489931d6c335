-- How many bytes follow the front of a message, and the most that a map has.
-- Assumes nothing.
use mathlib.Core.Path.{◌≡◌, refl, ap, ◌∙◌}
use mathlib.Core.Option.{none}
use mathlib.Core.List.{List, [], ◌∷◌, ◌++◌, map}
use Prim.Native.Nat.{ℕ, ◌+◌, ◌*◌, ◌≤◌, min}
use native.Mathlib.Omega.{arith}
use lib.Dec.{leb}
use lib.ListN.{length, take, length-append, length-take, length-map}
use borrow.Author.Tests.{leb-true}
use Rattle.util.proofs.Laws.Options.{unless_none}
use Rattle.util.specs.declared.refusal.Refusal.TheVariants.{Long}
use Rattle.std.specs.Prelude.{Some}
use Rattle.messages.specs.declared.sample_dump.SampleDumpMsg.{SampleDumpMsg}
use Rattle.messages.specs.declared.sample_dump.ExtendedSampleDumpMsg.{ExtendedSampleDumpMsg}
use Rattle.messages.specs.declared.file_dump.FileDumpMsg.{FileDumpMsg}
use Rattle.messages.specs.declared.file_reference.SelectMap.{SelectMap}
use Rattle.messages.specs.declared.file_reference.FileReferenceMsg.{FileReferenceMsg}
use Rattle.messages.specs.declared.system_exclusive.UniversalNonRealTimeMsg.{UniversalNonRealTimeMsg}
use Rattle.messages.specs.format.Core.{written}
use Rattle.messages.specs.Fields.{u7, tuning, name_of_16, sample_name, url}
use lib.IntN.{ℤ, pos}
use Rattle.messages.specs.Fields.{s7, s14}
use Rattle.messages.specs.Structures.{samples, key_tuning, scale_1, scale_2}
use Rattle.messages.specs.Maps.{sound_file_map}
use Rattle.messages.specs.Entries.{tuning_of, change_of, map_of}
use Rattle.messages.specs.Contents.{contents, longer}
use Rattle.messages.specs.MessageOf.{head_of, fields_of}
use Rattle.write_lists.specs.Parts.{part_sample, part_extended, part_file, part_keys, part_changes, part_maps, part_select, part_reference, part_of, size_sample, size_extended, size_file, size_select, size_reference, part_size}
use Rattle.write_lists.proofs.Laws.Lists.{exactly_size, counted_size}
use Rattle.write_lists.proofs.Laws.Packs.{length_pack}
use Rattle.messages.specs.declared.sample_dump.SampleDumpMsg.TheVariants as sample
use Rattle.messages.specs.declared.sample_dump.ExtendedSampleDumpMsg.TheVariants as extended
use Rattle.messages.specs.declared.file_dump.FileDumpMsg.TheVariants as file
use Rattle.messages.specs.declared.file_reference.SelectMap.TheVariants as select
use Rattle.messages.specs.declared.file_reference.FileReferenceMsg.TheVariants as reference
use Rattle.messages.specs.declared.system_exclusive.UniversalNonRealTimeMsg.TheVariants as msg

-- ---- parts of one kind

length_samples : (text : List ℕ) → length (written samples text) ≡ 120
length_samples text = exactly_size u7 1 (λ a. refl) 120 (λ i. 0) (λ i. refl) text

pub length_name : (text : List ℕ) → length (written name_of_16 text) ≡ 16
length_name text = exactly_size u7 1 (λ a. refl) 16 (λ i. 0x20) (λ i. refl) text

pub length_keys : (entries : List ℕ) → length (part_keys entries) ≡ 384
length_keys entries =
    exactly_size tuning 3 (λ a. refl) 128 (λ i. Some (record { semitone = i; fraction = 0 })) (λ i. refl) (map tuning_of entries)

length_sample_name : (text : List ℕ) → length (written sample_name text) ≡ 1 + min (length text) 127
length_sample_name text = counted_size u7 1 (λ a. refl) text ∙ omega arith

length_changes : (entries : List ℕ) → length (part_changes entries) ≡ 1 + 4 * min (length entries) 127
length_changes entries =
    counted_size key_tuning 4 (λ a. refl) (map change_of entries) ∙ ap (λ (n : ℕ). 1 + 4 * min n 127) (length-map entries change_of)

pub length_maps : (entries : List ℕ) → length (part_maps entries) ≡ 1 + 8 * min (length entries) 127
length_maps entries =
    counted_size sound_file_map 8 (λ a. refl) (map map_of entries) ∙ ap (λ (n : ℕ). 1 + 8 * min n 127) (length-map entries map_of)

pub length_scale_1 : (s : List ℤ) → length (written scale_1 s) ≡ 12
length_scale_1 s = exactly_size s7 1 (λ a. refl) 12 (λ i. pos 0) (λ i. refl) s

pub length_scale_2 : (s : List ℤ) → length (written scale_2 s) ≡ 24
length_scale_2 s = exactly_size s14 2 (λ a. refl) 12 (λ i. pos 0) (λ i. refl) s

pub length_url : (text : List ℕ) → length (written url text) ≡ min (length text) 260 + 1
length_url text = length-append (take 260 text) (0 ∷ []) ∙ omega (arith, length-take 260 text)

-- a list that is not refused as longer than n
pub not_longer : {A : Type 0} (n : ℕ) (l : List A) → longer n l ≡ none → length l ≤ n
not_longer n l e = leb-true (length l) n (unless_none Long (leb (length l) n) e)

-- ---- messages

length_sample : (m : SampleDumpMsg) (text : List ℕ) → length (part_sample m text) ≡ size_sample m
length_sample (sample.Header n f p l s e t) text = refl
length_sample (sample.Packet c) text = length_samples text
length_sample (sample.Request n) text = refl
length_sample (sample.LoopPointTransmission n i t s e) text = refl
length_sample (sample.LoopPointsRequest n i) text = refl

length_extended : (m : ExtendedSampleDumpMsg) (text : List ℕ) → length (part_extended m text) ≡ size_extended m (length text)
length_extended (extended.SampleName n) text = length_sample_name text
length_extended (extended.SampleNameRequest n) text = refl
length_extended (extended.Header n f w r l s e t c) text = refl
length_extended (extended.LoopPointTransmission n i t s e) text = refl
length_extended (extended.LoopPointsRequest n i) text = refl

length_file : (m : FileDumpMsg) (text : List ℕ) → length (part_file m text) ≡ size_file m (length text)
length_file (file.Header s t l) text = refl
length_file (file.Packet c) text = omega (arith, length_pack 0 text (omega arith))
length_file (file.Request r t) text = refl

pub length_select : (m : SelectMap) (entries : List ℕ) → length (part_select m entries) ≡ size_select m (length entries)
length_select select.SoundFile entries = length_maps entries
length_select (select.WAV m) entries = refl
length_select (select.SoundFileBankOffset o d) entries = refl
length_select (select.WAVBankOffset m o d) entries = refl

length_reference : (m : FileReferenceMsg) (text entries : List ℕ)
    → length (part_reference m text entries) ≡ size_reference m (length text) (length entries)
length_reference (reference.Open c t) text entries = length_url text
length_reference (reference.SelectContents c m) text entries = length_select m entries
length_reference (reference.OpenSelectContents c t m) text entries =
    length-append (written url text) (part_select m entries) ∙ omega (arith, length_url text, length_select m entries)
length_reference (reference.Close c) text entries = refl

-- a name, and k bytes after it
after_name : (text bs : List ℕ) (k : ℕ) → length bs ≡ k → length (written name_of_16 text ++ bs) ≡ 16 + k
after_name text bs k e = length-append (written name_of_16 text) bs ∙ omega (arith, length_name text)

-- what follows the front of admitted contents
pub length_part : (m : UniversalNonRealTimeMsg) (text entries : List ℕ) → contents (head_of m) (fields_of m text entries) ≡ none
    → length (part_of m text entries) ≡ part_size m (length text) (length entries)
length_part (msg.SampleDump m) text entries h = length_sample m text
length_part (msg.ExtendedSampleDump m) text entries h = length_extended m text
length_part msg.IdentityRequest text entries h = refl
length_part (msg.IdentityReply r) text entries h = refl
length_part (msg.FileDump m) text entries h = length_file m text
length_part (msg.TuningBulkDumpRequest b p) text entries h = refl
length_part (msg.KeyBasedTuningDump k) text entries h = after_name text (part_keys entries) 384 (length_keys entries)
length_part (msg.ScaleTuningDump1Byte s) text entries h = after_name text _ 12 (length_scale_1 s.tuning)
length_part (msg.ScaleTuningDump2Byte s) text entries h = after_name text _ 24 (length_scale_2 s.tuning)
length_part (msg.TuningNoteChange c) text entries h =
    length_changes entries ∙ omega (arith, not_longer 127 (map change_of entries) h, length-map entries change_of)
length_part (msg.ScaleTuning1Byte s) text entries h = length_scale_1 s.tuning
length_part (msg.ScaleTuning2Byte s) text entries h = length_scale_2 s.tuning
length_part (msg.GeneralMidi g) text entries h = refl
length_part (msg.FileReference m) text entries h = length_reference m text entries
length_part msg.EOF text entries h = refl
length_part msg.Wait text entries h = refl
length_part msg.Cancel text entries h = refl
length_part (msg.NAK n) text entries h = refl
length_part (msg.ACK n) text entries h = refl

-- the most bytes of a map
pub size_select_most : (m : SelectMap) (y : ℕ) → size_select m y ≤ 1017
size_select_most select.SoundFile y = omega arith
size_select_most (select.WAV m) y = omega arith
size_select_most (select.SoundFileBankOffset o d) y = omega arith
size_select_most (select.WAVBankOffset m o d) y = omega arith
