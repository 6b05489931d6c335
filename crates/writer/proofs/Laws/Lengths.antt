-- What follows the front of an admitted message is short.
-- Assumes nothing.
use mathlib.Core.Path.{◌≡◌}
use mathlib.Core.Option.{none}
use mathlib.Core.List.{List, map}
use Prim.Native.Nat.{ℕ, ◌≤◌}
use native.Mathlib.Omega.{arith}
use lib.Dec.{leb}
use lib.ListN.{length}
use borrow.Author.Tests.{leb-true}
use Rattle.util.specs.Limits.{most_name}
use Rattle.util.specs.Options.{unless}
use Rattle.util.proofs.Laws.Options.{unless_none}
use Rattle.util.specs.declared.refusal.Refusal.TheVariants.{Long}
use Rattle.messages.specs.declared.sample_dump.SampleDumpMsg.{SampleDumpMsg}
use Rattle.messages.specs.declared.sample_dump.SampleDumpMsg.TheVariants as sample
use Rattle.messages.specs.declared.sample_dump.ExtendedSampleDumpMsg.{ExtendedSampleDumpMsg}
use Rattle.messages.specs.declared.sample_dump.ExtendedSampleDumpMsg.TheVariants as extended
use Rattle.messages.specs.declared.file_dump.FileDumpMsg.{FileDumpMsg}
use Rattle.messages.specs.declared.file_dump.FileDumpMsg.TheVariants as file
use Rattle.messages.specs.declared.file_reference.FileReferenceMsg.{FileReferenceMsg}
use Rattle.messages.specs.declared.file_reference.FileReferenceMsg.TheVariants as reference
use Rattle.messages.specs.declared.system_exclusive.UniversalNonRealTimeMsg.{UniversalNonRealTimeMsg}
use Rattle.messages.specs.declared.system_exclusive.UniversalNonRealTimeMsg.TheVariants as msg
use Rattle.messages.specs.Refusals.{least, least_none}
use Rattle.messages.specs.Fields.{high, type_bytes}
use Rattle.messages.specs.Entries.{change_of}
use Rattle.messages.specs.Contents.{contents, too_large, longer}
use Rattle.messages.specs.MessageOf.{head_of, fields_of, head_file, fields_file}
use Rattle.write_lists.specs.Parts.{part_size, size_sample, size_extended, size_file, size_reference}
use Rattle.write_lists.proofs.Laws.Sizes.{size_select_most}
use Rattle.writer.proofs.Laws.Contents.{length_map}

-- a list that is not too long
not_longer : (n k : ℕ) → unless Long (leb k n) ≡ none → k ≤ n
not_longer n k e = leb-true k n (unless_none Long (leb k n) e)

sample_small : (m : SampleDumpMsg) → size_sample m ≤ 2048
sample_small (sample.Header n f p l s e t) = omega arith
sample_small (sample.Packet c) = omega arith
sample_small (sample.Request n) = omega arith
sample_small (sample.LoopPointTransmission n i t s e) = omega arith
sample_small (sample.LoopPointsRequest n i) = omega arith

extended_small : (m : ExtendedSampleDumpMsg) (x : ℕ) → size_extended m x ≤ 2048
extended_small (extended.SampleName n) x = omega arith
extended_small (extended.SampleNameRequest n) x = omega arith
extended_small (extended.Header n f w r l s e t c) x = omega arith
extended_small (extended.LoopPointTransmission n i t s e) x = omega arith
extended_small (extended.LoopPointsRequest n i) x = omega arith

-- a name after a file type
name_short : (t name : List ℕ) → least (high t) (least (longer most_name name) (high name)) ≡ none → length name ≤ 1024
name_short t name z =
    not_longer 1024 (length name) (least_none (longer most_name name) (high name) (least_none (high t) (least (longer most_name name) (high name)) z).1).0

file_small : (m : FileDumpMsg) (text : List ℕ) → contents (head_file m) (fields_file m text) ≡ none → size_file m (length text) ≤ 2048
file_small (file.Header s t l) text z =
    let a = (least_none (high (type_bytes t)) (least (too_large l) (least (longer most_name text) (high text))) z).1 in
    let b = (least_none (too_large l) (least (longer most_name text) (high text)) a).1 in
    let h = not_longer 1024 (length text) (least_none (longer most_name text) (high text) b).0 in
    omega arith
file_small (file.Packet c) text z = let h = not_longer 111 (length text) z in omega arith
file_small (file.Request r t) text z = let h = name_short (type_bytes t) text z in omega arith

reference_small : (m : FileReferenceMsg) (x y : ℕ) → size_reference m x y ≤ 2048
reference_small (reference.Open c t) x y = omega arith
reference_small (reference.SelectContents c m) x y = omega (arith, size_select_most m y)
reference_small (reference.OpenSelectContents c t m) x y = omega (arith, size_select_most m y)
reference_small (reference.Close c) x y = omega arith

pub part_small : (m : UniversalNonRealTimeMsg) (text entries : List ℕ) → contents (head_of m) (fields_of m text entries) ≡ none
    → part_size m (length text) (length entries) ≤ 2048
part_small (msg.SampleDump m) text entries z = sample_small m
part_small (msg.ExtendedSampleDump m) text entries z = extended_small m (length text)
part_small msg.IdentityRequest text entries z = omega arith
part_small (msg.IdentityReply r) text entries z = omega arith
part_small (msg.FileDump m) text entries z = file_small m text z
part_small (msg.TuningBulkDumpRequest b p) text entries z = omega arith
part_small (msg.KeyBasedTuningDump k) text entries z = omega arith
part_small (msg.ScaleTuningDump1Byte s) text entries z = omega arith
part_small (msg.ScaleTuningDump2Byte s) text entries z = omega arith
part_small (msg.TuningNoteChange c) text entries z =
    let h = not_longer 127 (length (map change_of entries)) z in omega (arith, length_map change_of entries)
part_small (msg.ScaleTuning1Byte s) text entries z = omega arith
part_small (msg.ScaleTuning2Byte s) text entries z = omega arith
part_small (msg.GeneralMidi g) text entries z = omega arith
part_small (msg.FileReference m) text entries z = reference_small m (length text) (length entries)
part_small msg.EOF text entries z = omega arith
part_small msg.Wait text entries z = omega arith
part_small msg.Cancel text entries z = omega arith
part_small (msg.NAK n) text entries z = omega arith
part_small (msg.ACK n) text entries z = omega arith
