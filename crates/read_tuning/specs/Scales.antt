-- The adjustments of twelve semitones whose bytes stand from a place on: "twelve signed 7 or signed 14".
use Rattle.std.specs.Prelude.{List, ℕ, ◌+◌, ◌*◌, ℤ, map}
use Rattle.std.specs.List.{range_with_len}
use Rattle.util.specs.Signed.{unbiased}
use Rattle.read_places.specs.Places.{value_at}

-- the signed value of one group at i
abbrev pub s7_at : List ℕ → ℕ → ℤ
s7_at f i = unbiased 64 (value_at 1 f i)

-- the signed value of two groups from i on
abbrev pub s14_at : List ℕ → ℕ → ℤ
s14_at f i = unbiased 8192 (value_at 2 f i)

-- twelve of them, from i on
abbrev pub scale_1_at : List ℕ → ℕ → List ℤ
scale_1_at f i = map (λ k. s7_at f (i + k)) (range_with_len 0 12)

abbrev pub scale_2_at : List ℕ → ℕ → List ℤ
scale_2_at f i = map (λ k. s14_at f (i + 2 * k)) (range_with_len 0 12)
