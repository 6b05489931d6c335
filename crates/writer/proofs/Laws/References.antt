-- The body of a file reference by its front and its part, with the lengths that it counts.
-- Assumes nothing.
use mathlib.Core.Path.{◌≡◌, refl, ap}
use mathlib.Core.Option.{none, some}
use mathlib.Core.List.{List, [], ◌∷◌, ◌++◌}
use Prim.Native.Nat.{ℕ, ◌+◌, ◌*◌, ◌≤◌, min}
use native.Mathlib.Omega.{arith}
use lib.Dec.{lit≤}
use lib.ListN.{length, take, length-append, length-take}
use Rattle.util.specs.Groups.{groups, held}
use Rattle.util.proofs.Laws.Options.{some_none}
use Rattle.util.specs.declared.refusal.Refusal.TheVariants.{Kind}
use Rattle.messages.specs.declared.head.Head.TheVariants as head
use Rattle.messages.specs.declared.file_reference.FileReferenceType.{FileReferenceType}
use Rattle.messages.specs.declared.file_reference.FileReferenceType.TheVariants.{DLS, SF2, WAV}
use Rattle.messages.specs.declared.file_reference.SelectMap.{SelectMap}
use Rattle.messages.specs.declared.file_reference.SelectMap.TheVariants as select
use Rattle.messages.specs.declared.file_reference.FileReferenceMsg.{FileReferenceMsg}
use Rattle.messages.specs.declared.file_reference.FileReferenceMsg.TheVariants as reference
use Rattle.messages.specs.Refusals.{least, least_none}
use Rattle.messages.specs.format.Core.{written}
use Rattle.messages.specs.Fields.{url}
use Rattle.messages.specs.Maps.{reference_code, reference_size}
use Rattle.messages.specs.Contents.{contents, high_url, other_kind}
use Rattle.messages.specs.MessageOf.{head_reference, fields_reference, head_select, fields_select, any_select}
use Rattle.write_fronts.specs.Fronts.{front_reference, start_2, map_length}
use Rattle.write_lists.specs.Parts.{part_reference, part_select, part_maps}
use Rattle.write_lists.proofs.Laws.Sizes.{length_maps}
use Rattle.writer.proofs.Laws.Frames.{body_of}

-- the length of a bank's map, held to two groups
maps_held : (entries : List ℕ) → length (part_maps entries) ≡ held 2 (1 + 8 * min (length entries) 127)
maps_held entries = omega (arith, length_maps entries)

-- the length of 0B 01's type, URL and 00, held to two groups
url_held : (t : FileReferenceType) (text : List ℕ) → length (reference_code t ++ (take 260 text ++ (0 ∷ []))) ≡ held 2 (5 + min (length text) 260)
url_held t text =
    omega (arith, reference_size t, length-append (reference_code t) (take 260 text ++ (0 ∷ [])), length-append (take 260 text) (0 ∷ []), length-take 260 text)

pub select_parts : (v c : ℕ) (m : SelectMap) (entries : List ℕ)
    → body_of v (head_select m) (fields_select c m entries) ≡ start_2 v 0x0B 0x02 ((2, c) ∷ (2, map_length m (length entries)) ∷ []) ++ part_select m entries
select_parts v c select.SoundFile entries =
    ap (λ (n : ℕ). start_2 v 0x0B 0x02 ((2, c) ∷ []) ++ (groups 2 n ++ part_maps entries)) (maps_held entries)
select_parts v c (select.WAV m) entries = refl
select_parts v c (select.SoundFileBankOffset o d) entries = refl
select_parts v c (select.WAVBankOffset m o d) entries = refl

pub open_parts : (v c : ℕ) (t : FileReferenceType) (text : List ℕ) (y : ℕ)
    → body_of v head.FileReferenceOpen (fields_reference (reference.Open c t) text []) ≡ front_reference v (reference.Open c t) (length text) y ++ written url text
open_parts v c DLS text y = rw (url_held DLS text)
open_parts v c SF2 text y = rw (url_held SF2 text)
open_parts v c WAV text y = rw (url_held WAV text)

-- ---- 0B 03: the length counts the letters, the URL and its 00, and the map as it is counted

-- that length, for a map counted as n, held to two groups
both_held : (text : List ℕ) (n k : ℕ) → n ≡ k → k ≤ 1017 → 5 + length (take 260 text) + n ≡ held 2 (5 + min (length text) 260 + k)
both_held text n k e h = omega (arith, length-take 260 text)

kind_not : {A : Type 0} (text : List ℕ) → least (high_url text) (some Kind) ≡ none → A
kind_not text e = absurd (some_none (least_none (high_url text) (some Kind) e).1)

pub both_parts : (v c : ℕ) (t : FileReferenceType) (m : SelectMap) (text entries : List ℕ)
    → least (high_url text) (other_kind t (any_select m entries)) ≡ none
    → body_of v head.FileReferenceOpenSelect (fields_reference (reference.OpenSelectContents c t m) text entries)
    ≡ front_reference v (reference.OpenSelectContents c t m) (length text) (length entries) ++ (written url text ++ part_select m entries)
both_parts v c DLS select.SoundFile text entries z = rw (both_held text (length (part_maps entries)) (1 + 8 * min (length entries) 127) (length_maps entries) (omega arith))
both_parts v c DLS (select.WAV m) text entries z = kind_not text z
both_parts v c DLS (select.SoundFileBankOffset o d) text entries z = rw (both_held text 7 7 refl (lit≤ tt))
both_parts v c DLS (select.WAVBankOffset m o d) text entries z = kind_not text z
both_parts v c SF2 select.SoundFile text entries z = rw (both_held text (length (part_maps entries)) (1 + 8 * min (length entries) 127) (length_maps entries) (omega arith))
both_parts v c SF2 (select.WAV m) text entries z = kind_not text z
both_parts v c SF2 (select.SoundFileBankOffset o d) text entries z = rw (both_held text 7 7 refl (lit≤ tt))
both_parts v c SF2 (select.WAVBankOffset m o d) text entries z = kind_not text z
both_parts v c WAV select.SoundFile text entries z = kind_not text z
both_parts v c WAV (select.WAV m) text entries z = rw (both_held text 9 9 refl (lit≤ tt))
both_parts v c WAV (select.SoundFileBankOffset o d) text entries z = kind_not text z
both_parts v c WAV (select.WAVBankOffset m o d) text entries z = rw (both_held text 15 15 refl (lit≤ tt))

pub reference_parts : (v : ℕ) (m : FileReferenceMsg) (text entries : List ℕ) → contents (head_reference m) (fields_reference m text entries) ≡ none
    → body_of v (head_reference m) (fields_reference m text entries) ≡ front_reference v m (length text) (length entries) ++ part_reference m text entries
reference_parts v (reference.Open c t) text entries z = open_parts v c t text (length entries)
reference_parts v (reference.SelectContents c m) text entries z = select_parts v c m entries
reference_parts v (reference.OpenSelectContents c t m) text entries z = both_parts v c t m text entries z
reference_parts v (reference.Close c) text entries z = refl
