-- What is selected, from a place to the end: bank maps, a bank offset, a WAV map, a WAV map with an offset.
-- Assumes nothing.
use mathlib.Core.Path.{◌≡◌, refl, sym, ap, ◌∙◌}
use mathlib.Core.Bool.{Bool, true, false}
use mathlib.Core.Option.{none, some}
use mathlib.Core.List.{List, [], ◌∷◌, map}
use Rattle.std.specs.Prelude.{Some, None}
use Prim.Native.Nat.{ℕ, zero, suc, ◌+◌, ◌*◌, ◌-◌, ◌<◌, ◌≤◌}
use native.Mathlib.Omega.{arith}
use native.Mathlib.Numerals.{add-one}
use lib.ListN.{length, drop, get_or, length-drop}
use lib.Seq.{drop-cons}
use borrow.Author.Tests.{lt-ltb}
use Rattle.util.specs.Groups.{Seven}
use Rattle.util.proofs.Laws.Options.{not_some}
use Rattle.messages.specs.declared.file_reference.SelectMap.TheVariants.{SoundFile, WAV, WAVBankOffset}
use Rattle.messages.specs.format.Core.{bad, got, Whole}
use Rattle.messages.specs.format.Sequence.{end}
use Rattle.messages.specs.format.Lists.{counted, all_bytes}
use Rattle.messages.specs.format.Tests.{other_length}
use Rattle.messages.specs.Entries.{map_entry, map_of}
use Rattle.messages.specs.Maps.{BankOffset, AnySelect, of_bank, of_wav, map_list, only_wav_map, wav_map_offset, sound_file_map, wav_map, offset, bank_only, wav_only, maps_size}
use Rattle.read_places.specs.Places.{map_at, map_entries}
use Rattle.read_places.proofs.Laws.Numbers.{seven_get}
use Rattle.read_places.proofs.Laws.Answers.{none_left}
use Rattle.read_places.proofs.Laws.Lists.{entries_length}
use Rattle.read_file_reference.specs.Maps.{wav_at, flags_fit}
use Rattle.read_file_reference.specs.Picked.{Picks, picked}
use Rattle.read_file_reference.proofs.Laws.Maps.{maps_read, wav_read}

-- a list of maps is a number and eight bytes for each
list_other : (l : List ℕ) → (length l ≡ 1 + 8 * get_or l 0 0 → ⊥) → (end (counted sound_file_map)).read l ≡ none
list_other l k =
    not_some ((end (counted sound_file_map)).read l)
    λ m e. let w = ((end (counted sound_file_map)).only l m e).1 in
    let n : length l ≡ suc (length (all_bytes sound_file_map m)) = sym (ap length w) in
    let x : get_or l 0 0 ≡ length m = sym (ap (λ (r : List ℕ). get_or r 0 0) w) in
    k (omega (arith, maps_size m))

offset_length : (l : List ℕ) → (length l ≡ 7 → ⊥) → (end offset).read l ≡ none
offset_length l k = other_length (end offset) 7 (λ a. refl) l k

module _ (f : List ℕ) (s : Seven f) (i : ℕ) where
  -- ---- a bank file

  module _ (n : length f ≡ i + 7) where
    not_list : (end (counted sound_file_map)).read (drop i f) ≡ none
    not_list = list_other (drop i f) (λ e. omega (arith, length-drop i f))

    pub bank_offset_not : bad ≡ offset.read (drop i f) → bank_only.read (drop i f) ≡ none
    bank_offset_not e = rw (not_list, ← e)

  module _ (m : i ≤ length f) where
    pub bank_other : (length f - i ≡ 7 → ⊥) → (length f - i ≡ 1 + 8 * get_or f i 0 → ⊥) → bank_only.read (drop i f) ≡ none
    bank_other j k =
        let l = length-drop i f in
        rw (
          list_other (drop i f) (λ e. k (sym l ∙ e ∙ ap (λ (x : ℕ). 1 + 8 * x) (first i f))),
          offset_length (drop i f) (λ e. j (sym l ∙ e)),
        )
      where
        first : (i : ℕ) (f : List ℕ) → get_or (drop i f) 0 0 ≡ get_or f i 0
        first zero f = refl
        first (suc i) [] = refl
        first (suc i) (x ∷ f) = first i f

    pub bank_maps : length f - i ≡ 1 + 8 * get_or f i 0 → flags_fit f (i + 1) (get_or f i 0) ≡ true
        → bank_only.read (drop i f) ≡ some (of_bank (map_list (map map_of (map_entries f (i + 1) (get_or f i 0)))))
    bank_maps n e =
        let g : get_or f i 0 < 128 = seven_get f i s in
        let d : i + 1 + 8 * get_or f i 0 ≡ length f = omega arith in
        rw (
          drop-cons f i 0 (omega arith),
          lt-ltb _ _ g,
          ← add-one i,
          maps_read f s (get_or f i 0) (i + 1) (omega arith),
          e,
          none_left f (i + 1 + 8 * get_or f i 0) (sym d),
        )

    pub bank_flags : length f - i ≡ 1 + 8 * get_or f i 0 → (length f - i ≡ 7 → ⊥) → flags_fit f (i + 1) (get_or f i 0) ≡ false
        → bank_only.read (drop i f) ≡ none
    bank_flags n j e =
        let g : get_or f i 0 < 128 = seven_get f i s in
        let x = offset_length (drop i f) (λ x. j (sym (length-drop i f) ∙ x)) in
        let y : (end (counted sound_file_map)).read (drop i f) ≡ none =
        rw (drop-cons f i 0 (omega arith), lt-ltb _ _ g, ← add-one i, maps_read f s (get_or f i 0) (i + 1) (omega arith), e) in
        rw (y, x)

    -- the list was found: k maps from i + 1 on
    pub bank_maps_found : (k : ℕ) → k ≡ get_or f i 0 → length f - i ≡ 1 + 8 * k → flags_fit f (i + 1) k ≡ true
        → Picks bank_only (Some (picked SoundFile (length f - i) (i + 1) k)) f i
    bank_maps_found k e n t =
        let x = ap (λ (v : ℕ). 1 + 8 * v) e in
        let r = bank_maps (n ∙ x) (sym (ap (λ (v : ℕ). flags_fit f (i + 1) v) e) ∙ t)
        ∙ ap (λ (v : ℕ). some (of_bank (map_list (map map_of (map_entries f (i + 1) v))))) (sym e) in
        let w = (bank_only.only (drop i f) _ r).1 in
        let g : get_or f i 0 < 128 = seven_get f i s in
        record {
          says = sym r;
          part = (sym (ap length w ∙ length-drop i f), omega arith, omega arith, omega arith, entries_length (λ j. map_entry (map_at f j)) 8 k (i + 1));
        }

  -- ---- a WAV file

  wav_length : (length f - i ≡ 9 → ⊥) → (end wav_map).read (drop i f) ≡ none
  wav_length k = other_length (end wav_map) 9 (λ a. refl) (drop i f) (λ e. k (sym (length-drop i f) ∙ e))

  pub wav_is : length f ≡ i + 9 → wav_only.read (drop i f) ≡ some (of_wav (only_wav_map (wav_at f i)))
  wav_is n = rw (wav_read f s i (omega arith), none_left f (i + 9) n)

  pub wav_found : length f ≡ i + 9 → Picks wav_only (Some (picked (WAV (wav_at f i)) 9 0 0)) f i
  wav_found n = record { says = sym (wav_is n); part = (refl, omega arith, omega arith, omega arith, refl) }

  module _ (n : length f ≡ i + 16) where
    pub wav_offset_is : (o : BankOffset) → got o (drop (i + 9 + 7) f) ≡ offset.read (drop (i + 9) f)
        → wav_only.read (drop i f) ≡ some (of_wav (wav_map_offset (wav_at f i) o))
    wav_offset_is o e =
        let d : i + 9 + 7 ≡ length f = omega arith in
        rw (wav_length (λ x. omega arith), wav_read f s i (omega arith), ← e, none_left f (i + 9 + 7) (sym d))

    pub wav_offset_found : {o : ℕ} {b : Bool} → got (record { bank_offset = o; drum = b }) (drop (i + 9 + 7) f) ≡ offset.read (drop (i + 9) f)
        → Picks wav_only (Some (picked (WAVBankOffset (wav_at f i) o b) 15 0 0)) f i
    wav_offset_found e = record { says = sym (wav_offset_is _ e); part = (refl, omega arith, omega arith, omega arith, refl) }

    pub wav_offset_not : bad ≡ offset.read (drop (i + 9) f) → wav_only.read (drop i f) ≡ none
    wav_offset_not e = rw (wav_length (λ x. omega arith), wav_read f s i (omega arith), ← e)

-- nothing was found
pub picks_none : (p : Whole AnySelect) (f : List ℕ) (i : ℕ) → p.read (drop i f) ≡ none → Picks p None f i
picks_none p f i e = record { says = sym e; part = tt }
