-- The maps of file references, by place.
-- Assumes nothing.
use mathlib.Core.Path.{◌≡◌, refl, sym, ap, ◌∙◌}
use mathlib.Core.Bool.{Bool, true, false}
use mathlib.Core.Option.{some}
use mathlib.Core.List.{List, [], ◌∷◌, map}
use Prim.Native.Nat.{ℕ, zero, suc, ◌+◌, ◌*◌, ◌<◌, ◌≤◌}
use native.Mathlib.Nat.{add-zero, mul-zero, mul-suc}
use native.Mathlib.Omega.{arith}
use lib.Dec.{leb, lit<, lit≤}
use lib.ListN.{length, drop, get_or}
use lib.Seq.{drop-cons}
use borrow.Author.Tests.{le-leb, lt-leb, leb-true, leb-false}
use Rattle.std.specs.List.{list_all, range_with_len}
use Rattle.util.specs.Groups.{Seven}
use Rattle.messages.specs.declared.file_reference.SoundFileMap.{SoundFileMap}
use Rattle.messages.specs.format.Core.{bad, got, guard, bind}
use Rattle.messages.specs.format.Numbers.{read_range}
use Rattle.messages.specs.format.Sequence.{strip}
use Rattle.messages.specs.format.Lists.{all_read}
use Rattle.messages.specs.Fields.{is_set}
use Rattle.messages.specs.Entries.{map_entry, map_of}
use Rattle.messages.specs.Maps.{sound_file_map, wav_map, offset}
use Rattle.messages.proofs.Entries.{map_back}
use Rattle.read_places.specs.Places.{value_at, map_at, map_entries}
use Rattle.read_places.proofs.Laws.Numbers.{unsigned_at, range_at, value_get, value_lt}
use Rattle.read_file_reference.specs.Maps.{wav_at, flags_fit}

-- a byte above the range
pub range_above : (lo hi : ℕ) (a : lo ≤ hi) (b : hi < 128) (l : List ℕ) (i : ℕ) → i < length l → hi < get_or l i 0 → read_range lo hi a b (drop i l) ≡ bad
range_above lo hi a b l i h p =
    let q : lo ≤ get_or l i 0 = omega arith in
    rw (drop-cons l i 0 h, le-leb _ _ q, lt-leb _ _ p)

module _ (f : List ℕ) (s : Seven f) where
  -- ---- one bank map

  module _ (i : ℕ) (h : i + 8 ≤ length f) where
    pub map_read : get_or f (i + 6) 0 ≤ 3 → sound_file_map.read (drop i f) ≡ got (map_at f i) (drop (i + 8) f)
    map_read p =
        let e3 : i + 2 + 1 ≡ i + 3 = omega arith in
        let e5 : i + 3 + 2 ≡ i + 5 = omega arith in
        let e6 : i + 5 + 1 ≡ i + 6 = omega arith in
        let e7 : i + 6 + 1 ≡ i + 7 = omega arith in
        let e8 : i + 7 + 1 ≡ i + 8 = omega arith in
        rw (
          unsigned_at f s 2 i (omega arith),
          unsigned_at f s 1 (i + 2) (omega arith),
          e3,
          unsigned_at f s 2 (i + 3) (omega arith),
          e5,
          unsigned_at f s 1 (i + 5) (omega arith),
          e6,
          range_at 0 3 (lit≤ tt) (lit< tt) f (i + 6) (omega arith) (omega arith) p,
          e7,
          unsigned_at f s 1 (i + 7) (omega arith),
          e8,
          value_get f (i + 6),
        )

    pub map_bad : 3 < get_or f (i + 6) 0 → sound_file_map.read (drop i f) ≡ bad
    map_bad p =
        let e3 : i + 2 + 1 ≡ i + 3 = omega arith in
        let e5 : i + 3 + 2 ≡ i + 5 = omega arith in
        let e6 : i + 5 + 1 ≡ i + 6 = omega arith in
        rw (
          unsigned_at f s 2 i (omega arith),
          unsigned_at f s 1 (i + 2) (omega arith),
          e3,
          unsigned_at f s 2 (i + 3) (omega arith),
          e5,
          unsigned_at f s 1 (i + 5) (omega arith),
          e6,
          range_above 0 3 (lit≤ tt) (lit< tt) f (i + 6) (omega arith) p,
        )

    -- the entry of a map says the map
    map_again : map_of (map_entry (map_at f i)) ≡ map_at f i
    map_again =
        map_back (map_at f i)
        (omega (arith, value_lt f s 2 i (omega arith)))
        (omega (arith, value_lt f s 1 (i + 2) (omega arith)))
        (omega (arith, value_lt f s 2 (i + 3) (omega arith)))
        (omega (arith, value_lt f s 1 (i + 5) (omega arith)))
        (omega (arith, value_lt f s 1 (i + 7) (omega arith)))

    -- by whether the flags are at most 3
    pub map_test : (t : Bool) → leb (get_or f (i + 6) 0) 3 ≡ t
        → sound_file_map.read (drop i f) ≡ guard t (got (map_of (map_entry (map_at f i))) (drop (i + 8) f))
    map_test true e = map_read (leb-true _ _ e) ∙ ap (λ (m : SoundFileMap). got m (drop (i + 8) f)) (sym map_again)
    map_test false e = map_bad (leb-false _ _ e)

  -- ---- n bank maps

  one_more : (u : Bool) (a : SoundFileMap) (l : List SoundFileMap) (r : List ℕ)
      → bind (guard u (got l r)) (λ k z. got (a ∷ k) z) ≡ guard u (got (a ∷ l) r)
  one_more true a l r = refl
  one_more false a l r = refl

  -- the first of n + 1 maps, and the others
  maps_more : (n i : ℕ) (t : Bool) → i + 8 ≤ length f → leb (get_or f (i + 6) 0) 3 ≡ t → (i + 8) + 8 * n ≡ i + 8 * suc n
      → all_read sound_file_map n (drop (i + 8) f)
      ≡ guard (flags_fit f (i + 8) n) (got (map map_of (map_entries f (i + 8) n)) (drop ((i + 8) + 8 * n) f))
      → all_read sound_file_map (suc n) (drop i f)
      ≡ guard (flags_fit f i (suc n)) (got (map map_of (map_entries f i (suc n))) (drop (i + 8 * suc n) f))
  maps_more n i true h e d w =
      rw (map_test i h true e, w, d, e)
      (one_more (flags_fit f (i + 8) n) (map_of (map_entry (map_at f i))) (map map_of (map_entries f (i + 8) n)) (drop (i + 8 * suc n) f))
  maps_more n i false h e d w = rw (map_test i h false e, e)

  pub maps_read : (n i : ℕ) → i + 8 * n ≤ length f
      → all_read sound_file_map n (drop i f) ≡ guard (flags_fit f i n) (got (map map_of (map_entries f i n)) (drop (i + 8 * n) f))
  maps_read zero i h = let e : i + 8 * 0 ≡ i = rw mul-zero (add-zero i) in rw e
  maps_read (suc n) i h =
      let m : 8 * suc n ≡ 8 * n + 8 = mul-suc 8 n in
      maps_more n i (leb (get_or f (i + 6) 0) 3) (omega arith) refl (omega arith) (maps_read n (i + 8) (omega arith))

  -- ---- a WAV map

  pub wav_read : (i : ℕ) → i + 9 ≤ length f → wav_map.read (drop i f) ≡ got (wav_at f i) (drop (i + 9) f)
  wav_read i h =
      let e3 : i + 2 + 1 ≡ i + 3 = omega arith in
      let e4 : i + 3 + 1 ≡ i + 4 = omega arith in
      let e5 : i + 4 + 1 ≡ i + 5 = omega arith in
      let e6 : i + 5 + 1 ≡ i + 6 = omega arith in
      let e8 : i + 6 + 2 ≡ i + 8 = omega arith in
      let e9 : i + 8 + 1 ≡ i + 9 = omega arith in
      rw (
        unsigned_at f s 2 i (omega arith),
        unsigned_at f s 1 (i + 2) (omega arith),
        e3,
        unsigned_at f s 1 (i + 3) (omega arith),
        e4,
        unsigned_at f s 1 (i + 4) (omega arith),
        e5,
        unsigned_at f s 1 (i + 5) (omega arith),
        e6,
        unsigned_at f s 2 (i + 6) (omega arith),
        e8,
        unsigned_at f s 1 (i + 8) (omega arith),
        e9,
      )

  -- ---- an offset

  module _ (i : ℕ) (h : i + 7 ≤ length f) where
    pub offset_read : strip (0x00 ∷ 0x00 ∷ 0x01 ∷ 0x03 ∷ []) (drop i f) ≡ some (drop (i + 4) f) → get_or f (i + 6) 0 ≤ 1
        → offset.read (drop i f) ≡ got (record { bank_offset = value_at 2 f (i + 4); drum = is_set (get_or f (i + 6) 0) }) (drop (i + 7) f)
    offset_read e p =
        let e6 : i + 4 + 2 ≡ i + 6 = omega arith in
        let e7 : i + 6 + 1 ≡ i + 7 = omega arith in
        rw (
          e,
          unsigned_at f s 2 (i + 4) (omega arith),
          e6,
          range_at 0 1 (lit≤ tt) (lit< tt) f (i + 6) (omega arith) (omega arith) p,
          e7,
        )

-- ---- a test of the flags of n bank maps, from the a-th behind i on

pub flags_all : (f : List ℕ) (i n a : ℕ) → list_all (λ j. leb (get_or f (i + 8 * j + 6) 0) 3) (range_with_len a n) ≡ flags_fit f (i + 8 * a) n
flags_all f i zero a = refl
flags_all f i (suc n) a = let e : i + 8 * (a + 1) ≡ i + 8 * a + 8 = omega arith in rw (flags_all f i n (a + 1), e)
