-- Laws of packed data, byte by byte.
-- Assumes nothing.
use mathlib.Core.Path.{◌≡◌, ap}
use mathlib.Core.List.{List, [], ◌++◌}
use Prim.Native.Nat.{ℕ, zero, suc, ◌+◌, ◌^◌, ◌≤◌, ◌<◌}
use native.Mathlib.Nat.{mod-lt}
use native.Mathlib.Numerals.{add-one}
use native.Mathlib.Omega.{arith}
use lib.ListN.{length, drop, get_or, drop_of_length-le}
use lib.Pow.{pow_pos}
use lib.Seq.{drop-cons}
use Rattle.read_places.specs.Places.{next_k, next_tops, data_byte, data_from}

pub next_k_small : (k : ℕ) → k ≤ 7 → next_k k ≤ 7
next_k_small zero h = omega arith
next_k_small (suc k) h = omega arith

pub next_tops_small : (k t b : ℕ) → b < 128 → next_tops k t b < 2 ^ next_k k
next_tops_small zero t b h = h
next_tops_small (suc k) t b h = mod-lt t (pow_pos k)

pub data_turn : (k t i : ℕ) (l : List ℕ) → i < length l
    → data_from k t (drop i l) ≡ data_byte k t (get_or l i 0) ++ data_from (next_k k) (next_tops k t (get_or l i 0)) (drop (i + 1) l)
data_turn k t i l h = rw (add-one, drop-cons l i 0)

pub data_none : (k t : ℕ) (l : List ℕ) (i : ℕ) → length l ≤ i → data_from k t (drop i l) ≡ []
data_none k t l i h = ap (data_from k t) (drop_of_length-le l {i = i} h)
