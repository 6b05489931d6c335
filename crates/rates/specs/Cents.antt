-- Cents as a 14-bit fraction of a semitone (01, "Beside the walk"). Each operation on floats is `lib.Ieee`'s at binary32; the nearest whole number is in exact integers. Definitions only.
use Rattle.std.specs.Prelude.{ℕ, ◌+◌, ◌*◌, ◌/◌, ◌%◌, false, cond, pos, Float}
use Rattle.std.specs.Float.{nan, inf, fin, binary32}
use Rattle.std.specs.Float.Ieee.{up, down, lt, mul, div}

-- 0
abbrev pub zero32 : Float
zero32 = fin false 0 (pos 0)

-- 100 is 25 * 2^2
abbrev pub hundred : Float
hundred = fin false 25 (pos 2)

-- 16,383
abbrev pub full : Float
full = fin false 16383 (pos 0)

-- "held to 0..100"; "NaN gives 0"
unfoldable pub hold_of : Float → Float
hold_of nan = zero32
hold_of (inf s) = cond s zero32 hundred
hold_of (fin s m e) = cond (lt zero32 (fin s m e)) (cond (lt (fin s m e) hundred) (fin s m e) hundred) zero32

-- "divided by 100, times 16,383, each f32 rounded"
unfoldable pub scaled_of : Float → Float
scaled_of x = mul binary32 (div binary32 (hold_of x) hundred) full

-- "then nearest whole, halves away from zero", of a float that is finite and not negative: the whole part, and 1 where the rest is a half or more
unfoldable pub nearest_of : Float → ℕ
nearest_of nan = 0
nearest_of (inf s) = 0
nearest_of (fin s m e) = m * up e / down e + 2 * (m * up e % down e) / down e

-- "Cents (f32) to a fraction"
abbrev pub cents_of : Float → ℕ
cents_of x = nearest_of (scaled_of x)
