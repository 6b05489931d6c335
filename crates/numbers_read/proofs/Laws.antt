-- Numbers put behind others; what was read by other words. Assumes nothing.
use mathlib.Core.Path.{◌≡◌, ap, subst, ◌∙◌}
use mathlib.Core.Bool.{Bool}
use mathlib.Core.List.{List, [], ◌∷◌, ◌++◌}
use Prim.Native.Nat.{ℕ, suc, ◌+◌, ◌-◌, ◌≤◌}
use native.Mathlib.Omega.{arith}
use lib.Dec.{leb}
use lib.ListN.{length, take, drop}
use lib.Seq.{drop_at, drop-drop, length-take-le}
use borrow.Rule.Slice.PartMut.{put_mid}
use borrow.Author.Tests.{le-leb}
use Rattle.util.specs.Pick.{pick}
use Rattle.util.specs.Splice.{overwritten, splice}
use Rattle.util.proofs.Laws.Splice.{tail_room, part_put, part_length}

-- numbers put behind the first four places, over which four are put then
module _ (xs ys ns : List ℕ) (room : 20 ≤ length xs) (few : length ns ≤ 16)
    (put : ys ≡ pick (leb (length ns) (length (take (length xs - 4) (drop 4 xs)))) (overwritten ns (take (length xs - 4) (drop 4 xs))) (take (length xs - 4) (drop 4 xs))) where
  put_front : ys ≡ overwritten ns (take (length xs - 4) (drop 4 xs))
  put_front = put ∙ ap (λ (t : Bool). pick t (overwritten ns (take (length xs - 4) (drop 4 xs))) (take (length xs - 4) (drop 4 xs))) (le-leb _ _ (tail_room xs 4 (length ns) (omega arith)))

  pub behind_length : length (put_mid 4 (length xs - 4) xs ys) ≡ length xs
  behind_length = part_length xs ys ns 4 (omega arith) put_front

  front_behind : (a b c d : ℕ) → overwritten (a ∷ b ∷ c ∷ d ∷ []) (splice xs 4 ns) ≡ overwritten (a ∷ b ∷ c ∷ d ∷ ns) xs
  front_behind a b c d =
      let h : 4 ≤ length xs = omega arith in
      let n : 4 + length ns ≡ suc (suc (suc (suc (length ns)))) = omega arith in
      ap (λ (l : List ℕ). a ∷ b ∷ c ∷ d ∷ l) (drop_at (take 4 xs) (overwritten ns (drop 4 xs)) 4 (length-take-le 4 xs h) ∙ ap (λ (l : List ℕ). ns ++ l) (drop-drop (length ns) 4 xs ∙ ap (λ (k : ℕ). drop k xs) n))

  pub behind_four : (a b c d : ℕ) → overwritten (a ∷ b ∷ c ∷ d ∷ []) (put_mid 4 (length xs - 4) xs ys) ≡ overwritten (a ∷ b ∷ c ∷ d ∷ ns) xs
  behind_four a b c d = ap (overwritten (a ∷ b ∷ c ∷ d ∷ [])) (part_put xs ys ns 4 put_front) ∙ front_behind a b c d
