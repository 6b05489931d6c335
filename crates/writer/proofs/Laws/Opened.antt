-- An output in which F0 is written, a row behind it, what follows the row, and a checksum: one write after the other from the front.
-- Assumes nothing.
use mathlib.Core.Path.{◌≡◌, sym, ap, ◌∙◌}
use mathlib.Core.Bool.{Bool}
use mathlib.Core.List.{List, [], ◌∷◌, ◌++◌}
use Prim.Native.Nat.{ℕ, ◌+◌, ◌-◌, ◌≤◌}
use native.Mathlib.Omega.{arith}
use lib.ListN.{length, take, drop, set}
use borrow.Rule.Slice.PartMut.{put_mid}
use Rattle.util.specs.Splice.{overwritten, splice}
use Rattle.util.proofs.Laws.Splice.{Run, run_none, run_set, run_part, run_splice}
use Rattle.writer.specs.Frames.{sum_of, wire}
use Rattle.writer.proofs.Laws.Sums.{wire_length, run_body}

-- with F0, with a row behind it, and with more from n on
abbrev pub with_f0 : List ℕ → List ℕ
with_f0 x = set x 0 0xF0

abbrev pub with_row : List ℕ → List ℕ → List ℕ
with_row x y = put_mid 1 (length (with_f0 x) - 1) (with_f0 x) y

abbrev pub with_more : List ℕ → List ℕ → ℕ → List ℕ → List ℕ
with_more x y n z = put_mid n (length (with_row x y) - n) (with_row x y) z

-- what the parts of y and z of the output are after a row and what follows it are written to them
abbrev pub RowPut : List ℕ → List ℕ → List ℕ → Type 0
RowPut x row y = y ≡ overwritten row (take (length (with_f0 x) - 1) (drop 1 (with_f0 x)))

abbrev pub MorePut : List ℕ → List ℕ → List ℕ → ℕ → List ℕ → Type 0
MorePut x more y n z = z ≡ overwritten more (take (length (with_row x y) - n) (drop n (with_row x y)))

pub opened : (x : List ℕ) → 1 ≤ length x → Run x (0xF0 ∷ []) (with_f0 x) 1
opened x h = run_set (run_none x) 0xF0 (omega arith)

pub row_put : (x row y : List ℕ) (a : ℕ) → length row ≡ a → 1 + a ≤ length x → RowPut x row y → Run x (0xF0 ∷ row) (with_row x y) (1 + a)
row_put x row y a l h e = run_part (opened x (omega arith)) y row a l h e

pub more_put : (x row more y z : List ℕ) (a b : ℕ) → length row ≡ a → length more ≡ b → 1 + a + b ≤ length x → RowPut x row y → MorePut x more y (1 + a) z
    → Run x (0xF0 ∷ row ++ more) (with_more x y (1 + a) z) (1 + a + b)
more_put x row more y z a b l m h e f = run_part (row_put x row y a l (omega arith) e) z more b m h f

-- a row of a bytes, b bytes behind it and their checksum, where there is one, have room with F0 and F7
pub record Sized (x row more : List ℕ) (t : Bool) (a b : ℕ) : Type 0 where
  pub front : length row ≡ a
  pub rest : length more ≡ b
  pub room : 1 + a + b + length (sum_of t (row ++ more)) + 1 ≤ length x

pub sized : (x row more : List ℕ) (t : Bool) (a b : ℕ) → length row ≡ a → length more ≡ b → length (wire t (row ++ more)) ≤ length x → Sized x row more t a b
sized x row more t a b l m h =
    let w : 1 + length row + length more + length (sum_of t (row ++ more)) + 1 ≤ length x = rw wire_length at h in
    record { front = l; rest = m; room = omega arith }

module _ {x row more : List ℕ} {t : Bool} {a b : ℕ} (k : Sized x row more t a b) where
  pub fronted : (y : List ℕ) → RowPut x row y → Run x (0xF0 ∷ row) (with_row x y) (1 + a)
  fronted y e = row_put x row y a k.front (omega (arith, k.room)) e

  pub parted : (y z : List ℕ) → RowPut x row y → MorePut x more y (1 + a) z → Run x (0xF0 ∷ row ++ more) (with_more x y (1 + a) z) (1 + a + b)
  parted y z e f = more_put x row more y z a b k.front k.rest (omega (arith, k.room)) e f

  -- the checksum is of the row and what follows it
  pub sum_is : (y z : List ℕ) → RowPut x row y → MorePut x more y (1 + a) z → sum_of t (take (1 + a + b - 1) (drop 1 (with_more x y (1 + a) z))) ≡ sum_of t (row ++ more)
  sum_is y z e f = ap (sum_of t) (run_body (parted y z e f))

  pub sum_long : (y z : List ℕ) (n : ℕ) → RowPut x row y → MorePut x more y (1 + a) z → n ≡ length (sum_of t (take (1 + a + b - 1) (drop 1 (with_more x y (1 + a) z))))
      → length (sum_of t (row ++ more)) ≡ n
  sum_long y z n e f g = sym (g ∙ ap length (sum_is y z e f))

  pub summed : (y z u : List ℕ) (n : ℕ) → RowPut x row y → MorePut x more y (1 + a) z → n ≡ length (sum_of t (take (1 + a + b - 1) (drop 1 (with_more x y (1 + a) z))))
      → u ≡ splice (with_more x y (1 + a) z) (1 + a + b) (sum_of t (take (1 + a + b - 1) (drop 1 (with_more x y (1 + a) z))))
      → Run x ((0xF0 ∷ row ++ more) ++ sum_of t (row ++ more)) u (1 + a + b + n)
  summed y z u n e f g h =
      let l : length (sum_of t (row ++ more)) ≡ n = sum_long y z n e f g in
      run_splice (parted y z e f) u (sum_of t (row ++ more)) n l (omega (arith, k.room, l)) (rw (sum_is y z e f) at h)
