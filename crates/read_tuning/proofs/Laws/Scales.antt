-- Signed values, and twelve of them, read by place.
-- Assumes nothing.
use mathlib.Core.Path.{◌≡◌, refl, sym, ap, ◌∙◌}
use mathlib.Core.List.{List, [], ◌∷◌, map}
use Prim.Native.Nat.{ℕ, zero, suc, ◌+◌, ◌*◌, ◌<◌, ◌≤◌}
use native.Mathlib.Nat.{add-zero}
use native.Mathlib.Omega.{arith}
use lib.IntN.{ℤ}
use lib.ListN.{length, drop}
use lib.Signed.{mag}
use mir.Syntax.{w8, w16}
use mir.Val.{to_z, of_z}
use mir.Facts.{to_z-of_z}
use Rattle.std.specs.List.{range_with_len}
use Rattle.util.specs.Groups.{Seven}
use Rattle.messages.specs.format.Core.{Part, got}
use Rattle.messages.specs.format.Lists.{all_read, all_bytes}
use Rattle.messages.specs.Fields.{s7, s14}
use Rattle.messages.specs.Structures.{scale_1, scale_2}
use Rattle.read_places.proofs.Laws.Numbers.{unsigned_at}
use Rattle.read_tuning.specs.Scales.{s7_at, s14_at, scale_1_at, scale_2_at}

-- ---- a signed number that fits, read back from its bits

pub from_bits_8 : {z v : ℤ} → mag z < 128 → z ≡ v → to_z w8 (of_z w8 z) ≡ v
from_bits_8 h e = to_z-of_z {w = w8} (record { sfits = h }) ∙ e

pub from_bits_16 : {z v : ℤ} → mag z < 32768 → z ≡ v → to_z w16 (of_z w16 z) ≡ v
from_bits_16 h e = to_z-of_z {w = w16} (record { sfits = h }) ∙ e

-- ---- how many bytes they take

pub s7_size : (l : List ℤ) → length (all_bytes s7 l) ≡ length l
s7_size [] = refl
s7_size (x ∷ l) = omega (arith, s7_size l)

pub s14_size : (l : List ℤ) → length (all_bytes s14 l) ≡ 2 * length l
s14_size [] = refl
s14_size (x ∷ l) = omega (arith, s14_size l)

-- ---- by place

-- n values of one part, from the k-th place on
values_at : (p : Part ℤ) (size : ℕ) (value : ℕ → ℤ) (place : ℕ → ℕ) (f : List ℕ)
    → ((k : ℕ) → place (k + 1) ≡ place k + size)
    → ((i : ℕ) → i + size ≤ length f → p.read (drop i f) ≡ got (value i) (drop (i + size) f))
    → (n k : ℕ) → ((j : ℕ) → j < k + n → place j + size ≤ length f)
    → all_read p n (drop (place k) f) ≡ got (map (λ j. value (place j)) (range_with_len k n)) (drop (place (k + n)) f)
values_at p size value place f step one zero k h = rw (add-zero k)
values_at p size value place f step one (suc n) k h =
    let d : (k + 1) + n ≡ k + suc n = omega arith in
    rw (
      one (place k) (h k (omega arith)),
      ← step k,
      values_at p size value place f step one n (k + 1) (λ j l. h j (omega arith)),
      d,
    )

module _ (f : List ℕ) (s : Seven f) (i : ℕ) where
  pub scale_1_reads : i + 12 ≤ length f → scale_1.read (drop i f) ≡ got (scale_1_at f i) (drop (i + 12) f)
  scale_1_reads h =
      ap (λ (n : ℕ). all_read s7 12 (drop n f)) (sym (add-zero i))
      ∙ values_at s7 1 (s7_at f) (λ k. i + k) f (λ k. omega arith) (λ j l. rw (unsigned_at f s 1 j l)) 12 0 (λ j l. omega arith)

  pub scale_2_reads : i + 24 ≤ length f → scale_2.read (drop i f) ≡ got (scale_2_at f i) (drop (i + 24) f)
  scale_2_reads h =
      let e : i ≡ i + 2 * 0 = omega arith in
      ap (λ (n : ℕ). all_read s14 12 (drop n f)) e
      ∙ values_at s14 2 (s14_at f) (λ k. i + 2 * k) f (λ k. omega arith) (λ j l. rw (unsigned_at f s 2 j l)) 12 0 (λ j l. omega arith)
