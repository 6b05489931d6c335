-- A list in which each number of another stands at the front, and the rest is kept.
-- Assumes nothing.
use mathlib.Core.Path.{◌≡◌, refl, sym, ap₂, ◌∙◌}
use mathlib.Core.List.{List, [], ◌∷◌}
use Prim.Native.Nat.{ℕ, suc, ◌+◌, ◌*◌, ◌<◌, ◌≤◌}
use native.Mathlib.Omega.{arith}
use lib.ListN.{length, get_or}
use Rattle.util.specs.Splice.{overwritten}
use Rattle.read_places.specs.Places.{entries_at}
use Rattle.read_places.proofs.Laws.Lists.{entries_length, entries_get}

same : (ys xs : List ℕ) → length ys ≡ length xs → ((k : ℕ) → get_or ys k 0 ≡ get_or xs k 0) → ys ≡ xs
same [] [] e all = refl
same [] (x ∷ xs) e all = absurd (omega arith)
same (y ∷ ys) [] e all = absurd (omega arith)
same (y ∷ ys) (x ∷ xs) e all = ap₂ (λ (a : ℕ) (l : List ℕ). a ∷ l) (all 0) (same ys xs (omega arith) (λ k. all (suc k)))

pub put_is : (t xs ys : List ℕ) → length ys ≡ length xs → length t ≤ length xs
    → ((k : ℕ) → k < length t → get_or ys k 0 ≡ get_or t k 0) → ((k : ℕ) → length t ≤ k → get_or ys k 0 ≡ get_or xs k 0) → ys ≡ overwritten t xs
put_is [] xs ys e h put rest = same ys xs e (λ k. rest k (omega arith))
put_is (a ∷ t) [] ys e h put rest = absurd (omega arith)
put_is (a ∷ t) (x ∷ xs) [] e h put rest = absurd (omega arith)
put_is (a ∷ t) (x ∷ xs) (y ∷ ys) e h put rest =
    ap₂ (λ (b : ℕ) (l : List ℕ). b ∷ l) (put 0 (omega arith))
    (put_is t xs ys (omega arith) (omega arith) (λ k l. put (suc k) (omega arith)) (λ k l. rest (suc k) (omega arith)))

-- n entries of so many bytes each, put by place
pub entries_put : (entry : ℕ → ℕ) (size n i : ℕ) (xs ys : List ℕ) → length ys ≡ length xs → n ≤ length xs
    → ((k : ℕ) → k < n → get_or ys k 0 ≡ entry (i + size * k)) → ((k : ℕ) → n ≤ k → get_or ys k 0 ≡ get_or xs k 0)
    → ys ≡ overwritten (entries_at entry size i n) xs
entries_put entry size n i xs ys e h put rest =
    let m : length (entries_at entry size i n) ≡ n = entries_length entry size n i in
    put_is (entries_at entry size i n) xs ys e (omega arith)
    (λ k l. let h : k < n = omega arith in put k h ∙ sym (entries_get entry size n i k h))
    (λ k l. rest k (omega arith))
