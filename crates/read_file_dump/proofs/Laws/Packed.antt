-- Laws of packed data: what unpacking comes to, how many bytes there are, whole groups, and the last group.
-- Assumes nothing.
use mathlib.Core.Path.{◌≡◌, refl, sym, ap, ◌∙◌}
use mathlib.Core.Bool.{Bool, true, false}
use mathlib.Core.Option.{some}
use mathlib.Core.List.{List, [], ◌∷◌, ◌++◌}
use Prim.Native.Nat.{ℕ, zero, suc, ◌+◌, ◌-◌, ◌*◌, ◌/◌, ◌%◌, ◌^◌, ◌≤◌, ◌<◌}
use native.Mathlib.Nat.{mod-lt, mod-eq_of_lt}
use native.Mathlib.Omega.{arith}
use lib.Dec.{eqb}
use lib.ListN.{length, take, drop, get_or, length-drop, drop_of_length-le}
use lib.Pow.{pow_pos, mod-mod-pow}
use lib.Seq.{drop-cons, drop-drop, length-take-le}
use borrow.Author.Tests.{ne_eqb}
use Rattle.std.specs.Simd.{first_chunks}
use Rattle.util.specs.Groups.{Seven}
use Rattle.util.specs.Options.{only_if, map_option}
use Rattle.util.specs.Packing.{unpack}
use Rattle.util.specs.Pick.{pick}
use Rattle.util.proofs.Laws.Groups.{seven_take, seven_drop}
use Rattle.read_places.specs.Places.{data_from, none_over}
use Rattle.read_places.proofs.Laws.Numbers.{seven_get}

map_only : {A B : Type 0} (g : A → B) (t : Bool) (a : A) → map_option g (only_if t (some a)) ≡ only_if t (some (g a))
map_only g true a = refl
map_only g false a = refl

-- unpacking gives the data where nothing is over
pub unpack_none_over : (k t : ℕ) (bs : List ℕ) → k ≤ 6 → unpack k t bs ≡ only_if (none_over k t bs) (some (data_from k t bs))
unpack_none_over zero t [] h = refl
unpack_none_over (suc k) t [] h = rw (ne_eqb (suc k) 7 (λ e. omega arith))
unpack_none_over zero t (b ∷ []) h = refl
unpack_none_over zero t (b ∷ c ∷ l) h =
    ap (map_option (λ r. (b / 64 * 128 + c) ∷ r)) (unpack_none_over 6 (b % 64) l (omega arith))
    ∙ map_only (λ (r : List ℕ). (b / 64 * 128 + c) ∷ r) (none_over 6 (b % 64) l) (data_from 6 (b % 64) l)
unpack_none_over (suc k) t (b ∷ l) h =
    ap (map_option (λ r. (t / 2 ^ k * 128 + b) ∷ r)) (unpack_none_over k (t % 2 ^ k) l (omega arith))
    ∙ map_only (λ (r : List ℕ). (t / 2 ^ k * 128 + b) ∷ r) (none_over k (t % 2 ^ k) l) (data_from k (t % 2 ^ k) l)

pub data_length : (k t : ℕ) (bs : List ℕ) → k ≤ 7 → length (data_from k t bs) ≡ length bs - (length bs - k + 7) / 8
data_length k t [] h = omega arith
data_length zero t (b ∷ l) h = omega (arith, data_length 7 b l (omega arith))
data_length (suc k) t (b ∷ l) h = omega (arith, data_length k (t % 2 ^ k) l (omega arith))

-- ---- whole groups

-- the k bytes that are still to come of a group, and then the next group
pub data_split : (k t : ℕ) (l : List ℕ) → k ≤ length l → t < 2 ^ k → data_from k t l ≡ data_from k t (take k l) ++ data_from 0 0 (drop k l)
data_split zero t l h g = let e : t ≡ 0 = omega arith in rw e
data_split (suc k) t [] h g = absurd (omega arith)
data_split (suc k) t (b ∷ l) h g = ap (λ (r : List ℕ). (t / 2 ^ k * 128 + b) ∷ r) (data_split k (t % 2 ^ k) l (omega arith) (mod-lt t (pow_pos k)))

-- a group of eight bytes in front
eight_split : (l : List ℕ) → Seven l → 8 ≤ length l → data_from 0 0 l ≡ data_from 0 0 (take 8 l) ++ data_from 0 0 (drop 8 l)
eight_split [] s h = absurd (omega arith)
eight_split (b ∷ l) s h = data_split 7 b l (omega arith) s.0

pub group_length : (l : List ℕ) → length l ≡ 8 → length (data_from 0 0 l) ≡ 7
group_length l h = omega (arith, data_length 0 0 l (omega arith))

-- group n of the k groups of eight bytes in front: its data, and that of what comes after it
pub group_turn : (k n : ℕ) (l : List ℕ) → Seven l → n < k → 8 * k ≤ length l
    → let g = get_or (first_chunks 8 k l) n [] in
    Seven g × (length g ≡ 8) × (data_from 0 0 (drop (8 * n) l) ≡ data_from 0 0 g ++ data_from 0 0 (drop (8 * (n + 1)) l))
group_turn zero n l s h r = absurd (omega arith)
group_turn (suc k) zero l s h r = (seven_take 8 l s, length-take-le 8 l (omega arith), eight_split l s (omega arith))
group_turn (suc k) (suc n) l s h r =
    let e : 8 * suc n ≡ 8 + 8 * n = omega arith in
    let d : 8 * (suc n + 1) ≡ 8 + 8 * (n + 1) = omega arith in
    rw (d, e, ← drop-drop (8 * n) 8 l, ← drop-drop (8 * (n + 1)) 8 l)
    (group_turn k n (drop 8 l) (seven_drop 8 l s) (omega arith) (omega (arith, length-drop 8 l)))

-- a list of eight bytes, byte by byte
eight_bytes : (l : List ℕ) → length l ≡ 8
    → l ≡ get_or l 0 0 ∷ get_or l 1 0 ∷ get_or l 2 0 ∷ get_or l 3 0 ∷ get_or l 4 0 ∷ get_or l 5 0 ∷ get_or l 6 0 ∷ get_or l 7 0 ∷ []
eight_bytes l h =
    rw (
      drop-cons l 0 0 (omega arith),
      drop-cons l 1 0 (omega arith),
      drop-cons l 2 0 (omega arith),
      drop-cons l 3 0 (omega arith),
      drop-cons l 4 0 (omega arith),
      drop-cons l 5 0 (omega arith),
      drop-cons l 6 0 (omega arith),
      drop-cons l 7 0 (omega arith),
      drop_of_length-le l {i = 8} (omega arith),
    )

low_of_low : (t : ℕ) → (t % 64 % 32 ≡ t % 32) × (t % 32 % 16 ≡ t % 16) × (t % 16 % 8 ≡ t % 8) × (t % 8 % 4 ≡ t % 4) × (t % 4 % 2 ≡ t % 2)
low_of_low t = (omega arith, omega arith, omega arith, omega arith, omega arith)

bits_of_low : (t : ℕ) → (t % 64 / 32 ≡ t / 32 % 2) × (t % 32 / 16 ≡ t / 16 % 2) × (t % 16 / 8 ≡ t / 8 % 2) × (t % 8 / 4 ≡ t / 4 % 2)
    × (t % 4 / 2 ≡ t / 2 % 2) × (t % 2 / 1 ≡ t % 2)
bits_of_low t = (omega arith, omega arith, omega arith, omega arith, omega arith, omega arith)

-- the seven data bytes of a group: the first one's top bit is bit 6
pub group_data : (l : List ℕ) → length l ≡ 8
    → data_from 0 0 l
    ≡ (get_or l 0 0 / 64 * 128 + get_or l 1 0) ∷ (get_or l 0 0 / 32 % 2 * 128 + get_or l 2 0) ∷ (get_or l 0 0 / 16 % 2 * 128 + get_or l 3 0)
    ∷ (get_or l 0 0 / 8 % 2 * 128 + get_or l 4 0) ∷ (get_or l 0 0 / 4 % 2 * 128 + get_or l 5 0) ∷ (get_or l 0 0 / 2 % 2 * 128 + get_or l 6 0)
    ∷ (get_or l 0 0 % 2 * 128 + get_or l 7 0) ∷ []
group_data l h =
    let t = get_or l 0 0 in
    let m = low_of_low t in
    let b = bits_of_low t in
    ap (data_from 0 0) (eight_bytes l h) ∙ rw (m.0, m.1, m.2, m.3, m.4, b.0, b.1, b.2, b.3, b.4, b.5)

-- ---- the last group

over_skip : (k t : ℕ) (l : List ℕ) → k ≤ length l → t < 2 ^ k → none_over k t l ≡ none_over 0 0 (drop k l)
over_skip zero t l h g = let e : t ≡ 0 = omega arith in rw e
over_skip (suc k) t [] h g = absurd (omega arith)
over_skip (suc k) t (b ∷ l) h g = over_skip k (t % 2 ^ k) l (omega arith) (mod-lt t (pow_pos k))

-- whole groups leave nothing over
over_groups : (q : ℕ) (l : List ℕ) → Seven l → 8 * q ≤ length l → none_over 0 0 l ≡ none_over 0 0 (drop (8 * q) l)
over_groups zero l s h = refl
over_groups (suc q) [] s h = absurd (omega arith)
over_groups (suc q) (b ∷ l) s h =
    let e : 8 * suc q ≡ suc (7 + 8 * q) = omega arith in
    over_skip 7 b l (omega arith) s.0
    ∙ over_groups q (drop 7 l) (seven_drop 7 l s.1) (omega (arith, length-drop 7 l))
    ∙ ap (none_over 0 0) (drop-drop (8 * q) 7 l ∙ sym (ap (λ (n : ℕ). drop n (b ∷ l)) e))

-- the bits that the bytes of a group that ends early leave over
over_end : (k t : ℕ) (l : List ℕ) → length l ≤ k → t < 2 ^ k → none_over k t l ≡ pick (eqb (k - length l) 7) false (eqb (t % 2 ^ (k - length l)) 0)
over_end k t [] h g = let e : k - 0 ≡ k = omega arith in rw (e, mod-eq_of_lt g)
over_end zero t (b ∷ l) h g = absurd (omega arith)
over_end (suc k) t (b ∷ l) h g =
    let e : suc k - suc (length l) ≡ k - length l = omega arith in
    let d : length l + (k - length l) ≡ k = omega arith in
    let m : t % 2 ^ k % 2 ^ (k - length l) ≡ t % 2 ^ (k - length l) =
    ap (λ (n : ℕ). t % 2 ^ n % 2 ^ (k - length l)) (sym d) ∙ mod-mod-pow t (length l) (k - length l) in
    over_end k (t % 2 ^ k) l (omega arith) (mod-lt t (pow_pos k)) ∙ rw (e, m)

module _ (l : List ℕ) (s : Seven l) where
  at_last : none_over 0 0 l ≡ none_over 0 0 (drop (length l - length l % 8) l)
  at_last =
      let e : 8 * (length l / 8) ≡ length l - length l % 8 = omega arith in
      over_groups (length l / 8) l s (omega arith) ∙ rw e

  pub over_whole : length l % 8 ≡ 0 → none_over 0 0 l ≡ true
  over_whole h = at_last ∙ ap (none_over 0 0) (drop_of_length-le l {i = length l - length l % 8} (omega arith))

  in_last : (length l % 8 ≡ 0 → ⊥)
      → none_over 0 0 l ≡ pick (eqb (8 - length l % 8) 7) false (eqb (get_or l (length l - length l % 8) 0 % 2 ^ (8 - length l % 8)) 0)
  in_last h =
      let i = length l - length l % 8 in
      let p : i < length l = omega arith in
      let n : length (drop (suc i) l) ≡ length l % 8 - 1 = length-drop (suc i) l ∙ omega arith in
      let e : 7 - length (drop (suc i) l) ≡ 8 - length l % 8 = omega (arith, n) in
      at_last ∙ ap (none_over 0 0) (drop-cons l i 0 p) ∙ over_end 7 (get_or l i 0) (drop (suc i) l) (omega (arith, n)) (seven_get l i s)
      ∙ ap (λ (k : ℕ). pick (eqb k 7) false (eqb (get_or l i 0 % 2 ^ k) 0)) e

  pub over_lone : length l % 8 ≡ 1 → none_over 0 0 l ≡ false
  over_lone h = in_last (λ e. omega arith) ∙ rw h

  pub over_spare : (length l % 8 ≡ 0 → ⊥) → (length l % 8 ≡ 1 → ⊥)
      → none_over 0 0 l ≡ eqb (get_or l (length l - length l % 8) 0 % 2 ^ (8 - length l % 8)) 0
  over_spare h g = in_last h ∙ rw (ne_eqb (8 - length l % 8) 7 (λ e. omega arith))
