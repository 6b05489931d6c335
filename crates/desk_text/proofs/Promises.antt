-- What words promise: the nearest step of the exact number.
-- Assumes nothing.
use mathlib.Core.Path.{◌≡◌, subst}
use mathlib.Core.Bool.{◌&&◌}
use mathlib.Core.List.{List}
use Prim.Native.Nat.{ℕ, ◌+◌, ◌*◌, ◌/◌, ◌^◌, ◌≤◌, ◌<◌, min}
use native.Mathlib.Omega.{arith}
use lib.Dec.{eqb}
use lib.ListN.{length}
use Rattle.std.specs.Prelude.{Some}
use Rattle.desk_text.specs.Cents.{most, value_after, padded, are_digits, whole_of, decimals_of, joined_of, unsigned_of}
use Rattle.desk_text.specs.Fractions.{step_16384, step_8192, nearest}
use Rattle.desk_text.specs.Promises.{digits_of, places_of, NearestOfExact}
use Rattle.desk_text.proofs.Laws.Digits.{and_right}
use Rattle.desk_text.proofs.Laws.Exact.{from_digits, cut_bounds, nearest_exact, is_joined}

-- the exact number of a word is not below its ten trillionths, and below one more
exact : (w : List ℕ) (n : ℕ) → unsigned_of w ≡ Some n → n < most
    → (n * 10 ^ places_of w ≤ digits_of w * 10 ^ 13) × (digits_of w * 10 ^ 13 < (n + 1) * 10 ^ places_of w)
unfolding unsigned_of joined_of
exact w n e h =
    let a = whole_of w in
    let d = decimals_of w in
    let v = value_after (value_after 0 a) (padded 13 d) in
    let j = is_joined (are_digits a && are_digits d) (eqb (length a) 0 && eqb (length d) 0) (min v most) n e in
    let q : v ≡ n = omega (arith, j.1) in
    let c = cut_bounds 13 (value_after 0 a) d (from_digits d (and_right (are_digits a) (are_digits d) j.0)) in
    subst (λ (m : ℕ). (m * 10 ^ places_of w ≤ digits_of w * 10 ^ 13) × (digits_of w * 10 ^ 13 < (m + 1) * 10 ^ places_of w)) q c

pub nearest_of_exact : NearestOfExact
nearest_of_exact w n e h =
    let x = exact w n e h in
    let p = 10 ^ places_of w in
    let m = digits_of w * 10 ^ 13 in
    let a = nearest_exact (nearest step_16384 n * step_16384) (step_16384 / 2) n m p (omega arith) (omega arith) x.0 x.1 in
    let b = nearest_exact (nearest step_8192 n * step_8192) (step_8192 / 2) n m p (omega arith) (omega arith) x.0 x.1 in
    (record { above = a.0; below = a.1 }, record { above = b.0; below = b.1 })
