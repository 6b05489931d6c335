-- The maps of file references (01, 0B 02 and 0B 03): bank maps, WAV maps, offsets.
use Rattle.std.specs.Prelude.{◌≡◌, refl, Bool, false, List, [], ◌∷◌, ◌++◌, ℕ, ◌+◌, ◌*◌, ◌<◌, ◌^◌, pos, length}
use Rattle.std.proofs.Math.Option.{none}
use Rattle.std.proofs.Common.{arith, length-append}
use Rattle.util.proofs.Laws.Groups.{seven_true}
use Rattle.messages.specs.Types.{SoundFileMap, WAVMap, FileReferenceType}
use Rattle.util.specs.declared.refusal.Refusal.TheVariants.{Kind}
use Rattle.messages.specs.declared.file_reference.FileReferenceType.TheVariants.{DLS, SF2, WAV}
use Rattle.messages.specs.format.{Part, Whole, ◌⊗◌, ◌⊗w◌, end, lit, Tag, tagged, choose, Names, ◌named◌, ◌namedW◌, Either, left, right, either, never, other_length, counted, all_bytes}
use Rattle.messages.specs.Fields.{Four, bytes_of, u7, u14, s14, flag, flags, url}

-- ---- one bank map, one WAV map, an offset

-- "eight bytes each (target bank nn, program, source bank nn, program, flags, volume)"
abbrev pub sound_file_map : Part SoundFileMap
sound_file_map =
    u14 ⊗ u7 ⊗ u14 ⊗ u7 ⊗ flags ⊗ u7
    named record {
      to = λ m. (m.dst_bank, (m.dst_prog, (m.src_bank, (m.src_prog, ((m.src_drum, m.dst_drum), m.volume)))));
      from = λ x.
          record {
            dst_bank = x.0;
            dst_prog = x.1.0;
            src_bank = x.1.1.0;
            src_prog = x.1.1.1.0;
            src_drum = x.1.1.1.1.0.0;
            dst_drum = x.1.1.1.1.0.1;
            volume = x.1.1.1.1.1;
          };
      to_from = λ x. refl;
      from_to = λ m. refl;
    }

-- "nine bytes (target bank nn, program, base, low key, high key, fine as signed 14, volume)"
abbrev pub wav_map : Part WAVMap
wav_map =
    u14 ⊗ u7 ⊗ u7 ⊗ u7 ⊗ u7 ⊗ s14 ⊗ u7
    named record {
      to = λ m. (m.dst_bank, (m.dst_prog, (m.base, (m.lokey, (m.hikey, (m.fine, m.volume))))));
      from = λ x.
          record {
            dst_bank = x.0;
            dst_prog = x.1.0;
            base = x.1.1.0;
            lokey = x.1.1.1.0;
            hikey = x.1.1.1.1.0;
            fine = x.1.1.1.1.1.0;
            volume = x.1.1.1.1.1.1;
          };
      to_from = λ x. refl;
      from_to = λ m. refl;
    }

-- "The two map records have the crate's defaults"
abbrev pub default_sound_file_map : SoundFileMap
default_sound_file_map =
    record { dst_bank = 0; dst_prog = 0; src_bank = 0; src_prog = 0; src_drum = false; dst_drum = false; volume = 0x7F }

abbrev pub default_wav_map : WAVMap
default_wav_map = record { dst_bank = 0; dst_prog = 0; base = 60; lokey = 0; hikey = 0x7F; fine = pos 0; volume = 0x7F }

pub record BankOffset : Type 0 where
  pub bank_offset : ℕ
  pub drum : Bool

-- "00 00 01 03, offset nn, drum flag"
abbrev pub offset : Part BankOffset
offset =
    lit (0x00 ∷ 0x00 ∷ 0x01 ∷ 0x03 ∷ []) (seven_true (0x00 ∷ 0x00 ∷ 0x01 ∷ 0x03 ∷ []) refl) (u14 ⊗ flag)
    named record {
      to = λ o. (o.bank_offset, o.drum);
      from = λ x. record { bank_offset = x.0; drum = x.1 };
      to_from = λ x. refl;
      from_to = λ o. refl;
    }

-- ---- what a bank select holds: "number (at most 127, surplus dropped) and eight bytes each", or an offset

pub data BankSelect : Type 0 where
  map_list : List SoundFileMap → BankSelect
  map_offset : BankOffset → BankSelect

abbrev pub bank_select : Whole BankSelect
bank_select =
    either (end (counted sound_file_map)) (end offset) (λ o h. refl)
    namedW record {
      to = elim [ map_list l ↦ left l | map_offset o ↦ right o ];
      from = elim [ left l ↦ map_list l | right o ↦ map_offset o ];
      to_from = elim [ left l ↦ refl | right o ↦ refl ];
      from_to = elim [ map_list l ↦ refl | map_offset o ↦ refl ];
    }

-- "Length counts the bytes after it"
abbrev pub bank_length : BankSelect → ℕ
bank_length x = length (bank_select.bytes x)

-- ---- what a WAV select holds: nine bytes; "or those, then 00 00 01 03, nn, flag"

pub data WAVSelect : Type 0 where
  only_wav_map : WAVMap → WAVSelect
  wav_map_offset : WAVMap → BankOffset → WAVSelect

pub wav_apart : (x : WAVMap × BankOffset) → (end wav_map).read ((end (wav_map ⊗ offset)).bytes x) ≡ none
wav_apart x = other_length (end wav_map) 9 (λ a. refl) ((end (wav_map ⊗ offset)).bytes x) (λ e. omega arith)

abbrev pub wav_select : Whole WAVSelect
wav_select =
    either (end wav_map) (end (wav_map ⊗ offset)) (λ x h. wav_apart x)
    namedW record {
      to = elim [ only_wav_map m ↦ left m | wav_map_offset m o ↦ right (m, o) ];
      from = elim [ left m ↦ only_wav_map m | right x ↦ wav_map_offset x.0 x.1 ];
      to_from = elim [ left m ↦ refl | right x ↦ refl ];
      from_to = elim [ only_wav_map m ↦ refl | wav_map_offset m o ↦ refl ];
    }

-- "counted as 15 as the crate does, though 16 follow"
abbrev pub wav_length : WAVSelect → ℕ
wav_length (only_wav_map m) = 9
wav_length (wav_map_offset m o) = 15

-- ---- 0B 03: the type names the kind of map; "0B 03 with a map of the other kind": 4 KIND

pub data AnySelect : Type 0 where
  of_bank : BankSelect → AnySelect
  of_wav : WAVSelect → AnySelect

abbrev pub any_select : Names (Either BankSelect WAVSelect) AnySelect
any_select =
    record {
      to = elim [ of_bank x ↦ left x | of_wav x ↦ right x ];
      from = elim [ left x ↦ of_bank x | right x ↦ of_wav x ];
      to_from = elim [ left x ↦ refl | right x ↦ refl ];
      from_to = elim [ of_bank x ↦ refl | of_wav x ↦ refl ];
    }

abbrev pub bank_only : Whole AnySelect
bank_only = either bank_select (never Kind) (λ x h. absurd h) namedW any_select

abbrev pub wav_only : Whole AnySelect
wav_only = either (never Kind) wav_select (λ x h. refl) namedW any_select

-- "in 0B 03 the file type does ("DLS " and "SF2 " are bank)"
abbrev pub select_for : FileReferenceType → Whole AnySelect
select_for DLS = bank_only
select_for SF2 = bank_only
select_for WAV = wav_only

abbrev pub select_length : AnySelect → ℕ
select_length (of_bank x) = bank_length x
select_length (of_wav x) = wav_length x

-- ---- type, URL, 00

abbrev pub reference_letters : FileReferenceType → Four
reference_letters DLS = (0x44, (0x4C, (0x53, 0x20)))
reference_letters SF2 = (0x53, (0x46, (0x32, 0x20)))
reference_letters WAV = (0x57, (0x41, (0x56, 0x20)))

abbrev pub reference_code : FileReferenceType → List ℕ
reference_code t = bytes_of (reference_letters t)

-- "type "DLS ", "SF2 " or "WAV ""
abbrev pub reference_types : Tag FileReferenceType
reference_types =
    record {
      code = reference_code;
      table = DLS ∷ SF2 ∷ WAV ∷ [];
      tag_back = elim [ DLS ↦ λ r. refl | SF2 ↦ λ r. refl | WAV ↦ λ r. refl ];
      tag_seven = elim [ DLS ↦ seven_true (reference_code DLS) refl | SF2 ↦ seven_true (reference_code SF2) refl | WAV ↦ seven_true (reference_code WAV) refl ];
    }

abbrev pub type_url : Whole (FileReferenceType × List ℕ)
type_url = end (tagged reference_types ⊗ url)

abbrev pub type_url_map : Whole ((t : FileReferenceType) × (List ℕ × AnySelect))
type_url_map = choose reference_types (λ t. url ⊗w select_for t)

-- four letters, the URL and its 00, and the map's length
abbrev pub open_length : (t : FileReferenceType) × (List ℕ × AnySelect) → ℕ
open_length x = 5 + length x.1.0 + select_length x.1.1

-- ---- the lengths are below 2^14

pub maps_size : (l : List SoundFileMap) → length (all_bytes sound_file_map l) ≡ 8 * length l
maps_size [] = refl
maps_size (x ∷ l) = omega (arith, maps_size l)

pub bank_below : (x : BankSelect) → bank_select.settled x → bank_length x < 1100
bank_below (map_list l) h = omega (arith, maps_size l)
bank_below (map_offset o) h = omega arith

pub bank_short : (x : BankSelect) → bank_select.settled x → bank_length x < 128 ^ 2
bank_short x h = omega (arith, bank_below x h)

pub wav_below : (x : WAVSelect) → wav_length x < 1100
wav_below (only_wav_map m) = omega arith
wav_below (wav_map_offset m o) = omega arith

pub wav_short : (x : WAVSelect) → wav_select.settled x → wav_length x < 128 ^ 2
wav_short x h = omega (arith, wav_below x)

pub reference_size : (t : FileReferenceType) → length (reference_code t) ≡ 4
reference_size = elim [ DLS ↦ refl | SF2 ↦ refl | WAV ↦ refl ]

pub type_url_short : (x : FileReferenceType × List ℕ) → type_url.settled x → length (type_url.bytes x) < 128 ^ 2
type_url_short x h =
    omega (arith, reference_size x.0, length-append (reference_code x.0) (x.1 ++ (0 ∷ [])), length-append x.1 (0 ∷ []))

pub select_below : (t : FileReferenceType) (x : AnySelect) → (select_for t).settled x → select_length x < 1100
select_below DLS (of_bank x) h = bank_below x h
select_below DLS (of_wav x) h = absurd h
select_below SF2 (of_bank x) h = bank_below x h
select_below SF2 (of_wav x) h = absurd h
select_below WAV (of_bank x) h = absurd h
select_below WAV (of_wav x) h = wav_below x

pub open_short : (x : (t : FileReferenceType) × (List ℕ × AnySelect)) → type_url_map.settled x → open_length x < 128 ^ 2
open_short x h = omega (arith, select_below x.0 x.1.1 h.1)
