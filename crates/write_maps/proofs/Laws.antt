-- Laws of records that are held as entries, and of the records that a frame drops.
-- Assumes nothing.
use mathlib.Core.Path.{◌≡◌, refl, sym, ap, ◌∙◌}
use mathlib.Core.Option.{Option, none, some}
use mathlib.Core.List.{List, [], ◌∷◌, ◌++◌, map, map-append}
use Prim.Native.Nat.{ℕ, ◌+◌, ◌<◌, min}
use native.Mathlib.Numerals.{add-one}
use native.Mathlib.Omega.{arith}
use lib.ListN.{length, take, get_or, set}
use lib.Seq.{take-take, take-suc, take-suc-set}
use Rattle.util.specs.Limits.{most_counted}
use Rattle.util.specs.declared.refusal.Refusal.{Refusal}
use Rattle.util.specs.declared.refusal.Refusal.TheVariants.{Kind}
use Rattle.util.proofs.Laws.Options.{some_none}
use Rattle.messages.specs.declared.system_exclusive.DeviceID.{DeviceID}
use Rattle.messages.specs.declared.system_exclusive.UniversalNonRealTimeMsg.TheVariants as msg
use Rattle.messages.specs.declared.file_reference.SelectMap.TheVariants as select
use Rattle.messages.specs.declared.file_reference.FileReferenceType.TheVariants.{DLS, SF2, WAV}
use Rattle.messages.specs.declared.file_reference.FileReferenceMsg.{FileReferenceMsg}
use Rattle.messages.specs.declared.file_reference.FileReferenceMsg.TheVariants as reference
use Rattle.messages.specs.declared.file_reference.SoundFileMap.{SoundFileMap}
use Rattle.messages.specs.Entries.{map_of}
use Rattle.messages.specs.Refusals.{least, least_none}
use Rattle.messages.specs.Fields.{url}
use Rattle.messages.specs.Messages.{write_of, refusal, settle, given_unless}
use Rattle.messages.specs.MessageOf.{message_of}
use Rattle.write_lists.proofs.Laws.Lists.{take_least}
use Rattle.write_maps.specs.Records.{records_frame}

-- a message beside entries is the message beside the records that they say
pub same_frame : (d : DeviceID) (m : FileReferenceMsg) (text es : List ℕ) → write_of (message_of d (msg.FileReference m) text es) ≡ records_frame d m text (map map_of es)
unfolding records_frame
same_frame d (reference.Open c t) text es = refl
same_frame d (reference.SelectContents c select.SoundFile) text es = refl
same_frame d (reference.SelectContents c (select.WAV m)) text es = refl
same_frame d (reference.SelectContents c (select.SoundFileBankOffset o b)) text es = refl
same_frame d (reference.SelectContents c (select.WAVBankOffset m o b)) text es = refl
same_frame d (reference.OpenSelectContents c t select.SoundFile) text es = refl
same_frame d (reference.OpenSelectContents c t (select.WAV m)) text es = refl
same_frame d (reference.OpenSelectContents c t (select.SoundFileBankOffset o b)) text es = refl
same_frame d (reference.OpenSelectContents c t (select.WAVBankOffset m o b)) text es = refl
same_frame d (reference.Close c) text es = refl

-- one entry more says one record more
pub one_held : (es : List ℕ) (i e : ℕ) (x : SoundFileMap) → i < length es → map_of e ≡ x → map map_of (take (i + 1) (set es i e)) ≡ map map_of (take i es) ++ (x ∷ [])
one_held es i e x h p = rw (add-one, take-suc-set es i e h, map-append map_of (take i es) (e ∷ []), p)

-- the first i records, and record i
pub one_more : (l : List SoundFileMap) (i : ℕ) (d : SoundFileMap) → i < length l → take i l ++ (get_or l i d ∷ []) ≡ take (i + 1) l
one_more l i d h = rw (add-one) (sym (take-suc l i d h))

-- where the first i entries say the first i records, and entry i is packed from record i, the first i + 1 entries say the first i + 1 records
pub one_packed : (l : List SoundFileMap) (es : List ℕ) (i e : ℕ) (d : SoundFileMap) → i < length es → i < length l → map_of e ≡ get_or l i d → map map_of (take i es) ≡ take i l
    → map map_of (take (i + 1) (set es i e)) ≡ take (i + 1) l
one_packed l es i e d h k p held = one_held es i e (get_or l i d) h p ∙ (ap (λ (a : List SoundFileMap). a ++ (get_or l i d ∷ [])) held ∙ one_more l i d k)

-- ---- "at most 127, surplus dropped"

first_counted : (l : List SoundFileMap) → take most_counted (take (min (length l) most_counted) l) ≡ take most_counted l
first_counted l = ap (take most_counted) (sym (take_least most_counted l)) ∙ take-take most_counted most_counted l (omega arith)

-- where contents are refused, the frame does not matter
never_given : {A : Type 0} (x : Option Refusal) (a b : A) → (x ≡ none → ⊥) → given_unless x a ≡ given_unless x b
never_given none a b h = absurd (h refl)
never_given (some r) a b h = refl

pub surplus : (d : DeviceID) (m : FileReferenceMsg) (text : List ℕ) (l : List SoundFileMap) → records_frame d m text (take (min (length l) most_counted) l) ≡ records_frame d m text l
unfolding records_frame write_of refusal settle
surplus d (reference.Open c t) text l = refl
surplus d (reference.SelectContents c select.SoundFile) text l = rw (first_counted l)
surplus d (reference.SelectContents c (select.WAV m)) text l = refl
surplus d (reference.SelectContents c (select.SoundFileBankOffset o b)) text l = refl
surplus d (reference.SelectContents c (select.WAVBankOffset m o b)) text l = refl
surplus d (reference.OpenSelectContents c DLS select.SoundFile) text l = rw (first_counted l)
surplus d (reference.OpenSelectContents c SF2 select.SoundFile) text l = rw (first_counted l)
surplus d (reference.OpenSelectContents c WAV select.SoundFile) text l = never_given (least (url.refuses text) (some Kind)) _ _ (λ e. some_none (least_none (url.refuses text) (some Kind) e).1)
surplus d (reference.OpenSelectContents c t (select.WAV m)) text l = refl
surplus d (reference.OpenSelectContents c t (select.SoundFileBankOffset o b)) text l = refl
surplus d (reference.OpenSelectContents c t (select.WAVBankOffset m o b)) text l = refl
surplus d (reference.Close c) text l = refl

-- the frame beside all entries that are held is the frame beside the records
pub all_held : (d : DeviceID) (m : FileReferenceMsg) (text : List ℕ) (l : List SoundFileMap) (es : List ℕ)
    → map map_of (take (min (length l) most_counted) es) ≡ take (min (length l) most_counted) l
    → records_frame d m text (map map_of (take (min (length l) most_counted) es)) ≡ records_frame d m text l
all_held d m text l es e = ap (records_frame d m text) e ∙ surplus d m text l

-- the first n of 130 records
pub first_lent : (l : List SoundFileMap) (n : ℕ) → length l ≡ 130 → take (min n 130) l ≡ take n l
first_lent l n e = let k : min (length l) n ≡ min n 130 = omega arith in sym (take_least n l ∙ ap (λ (j : ℕ). take j l) k)
