-- Records of numbers by place.
use Rattle.std.specs.Prelude.{List, ℕ, ℤ, ◌+◌, get_or, map}
use Rattle.std.specs.List.{range_with_len}
use Rattle.numbers_to_message.specs.Types.{WAVMap, SelectMap, ManufacturerID, UniversalNonRealTimeMsg}
use Rattle.numbers_to_message.specs.Fits.{taken}
use Rattle.numbers_to_message.specs.Rows.{reply, wav_map}
use Rattle.numbers_to_message.specs.declared.fit.NumberType.TheVariants.{U8, U16, I8, I16, Flag}
use Rattle.messages.specs.declared.file_reference.SelectMap.TheVariants as select

abbrev pub reply_at : ManufacturerID → List ℕ → UniversalNonRealTimeMsg
reply_at id v =
    reply id (taken U16 (get_or v 5 0)) (taken U16 (get_or v 6 0)) (taken U8 (get_or v 7 0)) (taken U8 (get_or v 8 0)) (taken U8 (get_or v 9 0)) (taken U8 (get_or v 10 0))

abbrev pub wav_map_at : List ℕ → ℕ → WAVMap
wav_map_at v i =
    wav_map (taken U16 (get_or v i 0)) (taken U8 (get_or v (i + 1) 0)) (taken U8 (get_or v (i + 2) 0)) (taken U8 (get_or v (i + 3) 0)) (taken U8 (get_or v (i + 4) 0))
    (taken I16 (get_or v (i + 5) 0)) (taken U8 (get_or v (i + 6) 0))

-- the ten numbers of a map of each form from a place on
abbrev pub offset_map_at : List ℕ → ℕ → SelectMap
offset_map_at v i = select.SoundFileBankOffset (taken U16 (get_or v (i + 1) 0)) (taken Flag (get_or v (i + 2) 0))

abbrev pub plain_map_at : List ℕ → ℕ → SelectMap
plain_map_at v i = select.WAV (wav_map_at v (i + 3))

abbrev pub both_map_at : List ℕ → ℕ → SelectMap
both_map_at v i = select.WAVBankOffset (wav_map_at v (i + 3)) (taken U16 (get_or v (i + 1) 0)) (taken Flag (get_or v (i + 2) 0))

-- twelve values from a place on
abbrev pub scale_1_at : List ℕ → ℕ → List ℤ
scale_1_at v i = map (λ k. taken I8 (get_or v (i + k) 0)) (range_with_len 0 12)

abbrev pub scale_2_at : List ℕ → ℕ → List ℤ
scale_2_at v i = map (λ k. taken I16 (get_or v (i + k) 0)) (range_with_len 0 12)
