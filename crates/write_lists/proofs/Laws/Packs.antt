-- Laws of packing seven bytes a group.
-- Assumes nothing.
use mathlib.Core.Path.{◌≡◌, refl, sym, ap, ap₂, ◌∙◌}
use mathlib.Core.List.{List, [], ◌∷◌, ◌++◌, append-nil}
use Prim.Native.Nat.{ℕ, zero, suc, ◌+◌, ◌-◌, ◌*◌, ◌/◌, ◌%◌, ◌^◌, ◌≤◌, ◌<◌, min}
use native.Mathlib.Omega.{arith}
use lib.ListN.{length, take, drop, get_or}
use borrow.Rule.Slice.PartMut.{put_mid}
use Rattle.util.specs.Packing.{tops, pack}
use Rattle.util.specs.Splice.{overwritten, splice}
use Rattle.util.proofs.Laws.Splice.{splice_none, item_turn}

-- ---- the top bits

top_double : (y k : ℕ) → y * 2 ^ suc k ≡ 2 * (y * 2 ^ k)
top_double y k = grind arith

-- one byte more
pub tops_more : (k : ℕ) (l : List ℕ) → tops (suc k) l ≡ 2 * tops k l + get_or l k 0 / 128
tops_more zero [] = refl
tops_more zero (x ∷ l) = omega arith
tops_more (suc k) [] = refl
tops_more (suc k) (x ∷ l) = omega (arith, tops_more k l, top_double (x / 128) k)

pub power_small : (i : ℕ) → i < 7 → 2 ^ i ≤ 64
power_small zero h = omega arith
power_small (suc zero) h = omega arith
power_small (suc (suc zero)) h = omega arith
power_small (suc (suc (suc zero))) h = omega arith
power_small (suc (suc (suc (suc zero)))) h = omega arith
power_small (suc (suc (suc (suc (suc zero))))) h = omega arith
power_small (suc (suc (suc (suc (suc (suc zero)))))) h = omega arith
power_small (suc (suc (suc (suc (suc (suc (suc i))))))) h = absurd (omega arith)

-- ---- groups

-- "one byte of their top bits" for each seven, "the last group may be shorter"
pub length_pack : (k : ℕ) (l : List ℕ) → k ≤ 6 → length (pack k l) ≡ length l + (length l - k + 6) / 7
length_pack zero [] h = refl
length_pack (suc k) [] h = omega arith
length_pack zero (x ∷ l) h = omega (arith, length_pack 6 l (omega arith))
length_pack (suc k) (x ∷ l) h = omega (arith, length_pack k l (omega arith))

-- a group of seven, and the others after it
tops_append : (k : ℕ) (g l : List ℕ) → length g ≡ k → tops k (g ++ l) ≡ tops k g
tops_append zero g l e = refl
tops_append (suc k) [] l e = absurd (omega arith)
tops_append (suc k) (x ∷ g) l e = ap (λ (t : ℕ). x / 128 * 2 ^ k + t) (tops_append k g l (omega arith))

pack_append : (k : ℕ) (g l : List ℕ) → length g ≡ k → pack k (g ++ l) ≡ pack k g ++ pack 0 l
pack_append zero [] l e = refl
pack_append zero (x ∷ g) l e = absurd (omega arith)
pack_append (suc k) [] l e = absurd (omega arith)
pack_append (suc k) (x ∷ g) l e = ap (λ (r : List ℕ). x % 128 ∷ r) (pack_append k g l (omega arith))

group_append : (g l : List ℕ) → length g ≡ 7 → pack 0 (g ++ l) ≡ pack 0 g ++ pack 0 l
group_append [] l e = absurd (omega arith)
group_append (x ∷ g) l e =
    ap₂ (λ (t : ℕ) (r : List ℕ). t ∷ x % 128 ∷ r) (tops_append 7 (x ∷ g) l e) (pack_append 6 g l (omega arith))

-- ---- groups written one after another

-- a group of g bytes has room, where r bytes of s are left after n groups
pub group_room : (s n r g o : ℕ) → r ≡ s - 7 * n → 0 < r → g ≡ min 7 r → s + (s - 0 + 6) / 7 ≤ o → 8 * n + (1 + g) ≤ o
group_room s n r g o a b d e = omega arith

-- a group is written: those that are left, on what is there, give what they gave
pub group_step : (g rest out ys z : List ℕ) (n : ℕ) → 0 < length g → length g ≡ min 7 (length g + length rest)
    → 8 * n + (1 + length g) ≤ length out → ys ≡ overwritten (pack 0 g) (take (length out - 8 * n) (drop (8 * n) out))
    → splice out (8 * n) (pack 0 (g ++ rest)) ≡ z
    → splice (put_mid (8 * n) (length out - 8 * n) out ys) (8 * (n + 1)) (pack 0 rest) ≡ z
group_step g [] out ys z n h f r e w =
    let u = rw append-nil at w in
    let t = (item_turn out ys (pack 0 g) [] z (8 * n) (1 + length g) (omega (arith, length_pack 0 g (omega arith))) r e (rw append-nil u)).1 in
    rw splice_none (sym (splice_none _ (8 * n + (1 + length g))) ∙ t)
group_step g (x ∷ rest) out ys z n h f r e w =
    let m : 8 * n + 8 ≡ 8 * (n + 1) = omega arith in
    let k : length g ≡ 7 = omega arith in
    let u = rw (group_append g (x ∷ rest) k) at w in
    rw (← m) (item_turn out ys (pack 0 g) (pack 0 (x ∷ rest)) z (8 * n) 8 (omega (arith, length_pack 0 g (omega arith))) (omega arith) e u).1
