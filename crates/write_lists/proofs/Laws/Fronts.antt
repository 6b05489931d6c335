-- A front by other words, and a front that begins with one byte.
-- Assumes nothing.
use mathlib.Core.Path.{◌≡◌, ap}
use mathlib.Core.List.{List, ◌∷◌}
use Prim.Native.Nat.{ℕ, ◌+◌, ◌-◌, ◌≤◌}
use native.Mathlib.Omega.{arith}
use lib.ListN.{length, take, drop, set}
use borrow.Rule.Slice.PartMut.{put_mid}
use Rattle.util.specs.Splice.{overwritten}
use Rattle.util.proofs.Laws.Splice.{Run, run_none, run_set, run_part, run_room}

pub fronts : (xs : List ℕ) {bs cs : List ℕ} → bs ≡ cs → overwritten bs xs ≡ overwritten cs xs
fronts xs e = ap (λ (l : List ℕ). overwritten l xs) e

-- a byte v is stored, and the part after it is lent: n bytes have room there
pub byte_room : (out : List ℕ) (v n : ℕ) → 1 + n ≤ length out → n ≤ length (take (length (set out 0 v) - 1) (drop 1 (set out 0 v)))
byte_room out v n h = run_room (run_set (run_none out) v (omega arith)) n h

-- and what comes back with n bytes bs in front is v and bs
pub byte_then : (out bs ys : List ℕ) (v n : ℕ) → length bs ≡ n → 1 + n ≤ length out
    → ys ≡ overwritten bs (take (length (set out 0 v) - 1) (drop 1 (set out 0 v)))
    → Run out (v ∷ bs) (put_mid 1 (length (set out 0 v) - 1) (set out 0 v) ys) (1 + n)
byte_then out bs ys v n l h e = run_part (run_set (run_none out) v (omega arith)) ys bs n l h e
