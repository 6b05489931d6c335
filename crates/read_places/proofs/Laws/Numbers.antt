-- Numbers read by place: what a field of the layouts reads from i on, in bytes below 128.
-- Assumes nothing.
use mathlib.Core.Path.{◌≡◌}
use mathlib.Core.List.{List, [], ◌∷◌}
use Prim.Native.Nat.{ℕ, zero, suc, ◌+◌, ◌^◌, ◌<◌, ◌≤◌}
use native.Mathlib.Omega.{arith}
use native.Mathlib.Numerals.{add-one}
use lib.ListN.{length, take, drop, get_or, length-drop}
use lib.Seq.{drop-cons, drop-drop, length-take-le}
use borrow.Author.Tests.{lt-ltb, le-leb}
use Rattle.util.specs.Groups.{Seven, value_high}
use Rattle.util.proofs.Laws.Groups.{seven_take, seven_drop, true_seven, value_below, value_high_below}
use Rattle.util.proofs.Laws.Places.{value_one}
use Rattle.messages.specs.format.Core.{got}
use Rattle.messages.specs.format.Numbers.{unsigned, unsigned_high, unsigned_high_below, read_range}
use Rattle.read_places.specs.Places.{value_at}

pub seven_get : (l : List ℕ) (i : ℕ) → Seven l → get_or l i 0 < 128
seven_get [] i s = omega arith
seven_get (x ∷ l) zero s = s.0
seven_get (x ∷ l) (suc i) s = seven_get l i s.1

-- one group is the byte
pub value_get : (l : List ℕ) (i : ℕ) → value_at 1 l i ≡ get_or l i 0
value_get l i = value_one i l

module _ (l : List ℕ) (s : Seven l) where
  part_seven : (k i : ℕ) → Seven (take k (drop i l))
  part_seven k i = seven_take k (drop i l) (seven_drop i l s)

  part_length : (k i : ℕ) → i + k ≤ length l → length (take k (drop i l)) ≡ k
  part_length k i h = length-take-le k (drop i l) (omega (arith, length-drop i l))

  pub value_lt : (k i : ℕ) → i + k ≤ length l → value_at k l i < 128 ^ k
  value_lt k i h = rw (part_length k i h) at (value_below (take k (drop i l)) (part_seven k i))

  pub value_high_lt : (k i : ℕ) → i + k ≤ length l → value_high (take k (drop i l)) < 128 ^ k
  value_high_lt k i h = rw (part_length k i h) at (value_high_below (take k (drop i l)) (part_seven k i))

  -- k groups, lowest first
  pub unsigned_at : (k i : ℕ) → i + k ≤ length l → (unsigned k).read (drop i l) ≡ got (value_at k l i) (drop (i + k) l)
  unsigned_at k i h =
      let n : k ≤ length (drop i l) = omega (arith, length-drop i l) in
      rw (le-leb k _ n, true_seven (take k (drop i l)) (part_seven k i), lt-ltb _ _ (value_lt k i h), drop-drop k i l)

  -- k groups, highest first
  pub high_at : (k i : ℕ) → i + k ≤ length l → (unsigned_high k).read (drop i l) ≡ got (value_high (take k (drop i l))) (drop (i + k) l)
  high_at k i h =
      let n : k ≤ length (drop i l) = omega (arith, length-drop i l) in
      rw (le-leb k _ n, true_seven (take k (drop i l)) (part_seven k i), lt-ltb _ _ (value_high_lt k i h), drop-drop k i l)

  -- k groups, highest first, of a number below t
  pub high_below_at : (k t i : ℕ) (p : 0 < t) (q : t ≤ 128 ^ k) → i + k ≤ length l → value_high (take k (drop i l)) < t
      → (unsigned_high_below k t p q).read (drop i l) ≡ got (value_high (take k (drop i l))) (drop (i + k) l)
  high_below_at k t i p q h v =
      let n : k ≤ length (drop i l) = omega (arith, length-drop i l) in
      rw (le-leb k _ n, true_seven (take k (drop i l)) (part_seven k i), lt-ltb _ _ v, drop-drop k i l)

-- a byte in a range
pub range_at : (lo hi : ℕ) (a : lo ≤ hi) (b : hi < 128) (l : List ℕ) (i : ℕ) → i < length l → lo ≤ get_or l i 0 → get_or l i 0 ≤ hi
    → read_range lo hi a b (drop i l) ≡ got (get_or l i 0) (drop (i + 1) l)
range_at lo hi a b l i h p q = rw (drop-cons l i 0 h, le-leb _ _ p, le-leb _ _ q, add-one i)
