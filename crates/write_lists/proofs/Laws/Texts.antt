-- Laws of texts: bytes cut, held and filled.
-- Assumes nothing.
use mathlib.Core.Path.{◌≡◌, refl, ap}
use mathlib.Core.Option.{none}
use mathlib.Core.List.{List, [], ◌∷◌, ◌++◌}
use Prim.Native.Nat.{ℕ, zero, suc, ◌-◌, min}
use native.Mathlib.Omega.{arith}
use lib.ListN.{length, take, replicate}
use Rattle.messages.specs.format.Core.{written}
use Rattle.messages.specs.format.Lists.{all_settle, all_bytes, filled}
use Rattle.messages.specs.Fields.{u7, url}
use Rattle.write_lists.specs.Writing.{low, fill_to, each}
use Rattle.write_lists.proofs.Laws.Lists.{take_least}

-- what is there, and after it what is filled
pub fill_split : (f n k : ℕ) (xs : List ℕ) → k ≡ min (length xs) n → fill_to f n xs ≡ each (written u7) (take k xs) ++ replicate (n - k) (low f)
fill_split f zero k xs e =
    let z : k ≡ 0 = omega arith in
    rw z
fill_split f (suc n) k [] e =
    let z : k ≡ 0 = omega arith in
    let a : n - 0 ≡ n = omega arith in
    let b : suc n - 0 ≡ suc n = omega arith in
    rw (z, fill_split f n 0 [] (omega arith), a, b)
fill_split f (suc n) zero (x ∷ xs) e = absurd (omega arith)
fill_split f (suc n) (suc k) (x ∷ xs) e =
    let z : suc n - suc k ≡ n - k = omega arith in
    rw (z, fill_split f n k xs (omega arith))

-- n bytes, filled with f
pub filled_is : (n f : ℕ) (fn : (i : ℕ) → u7.refuses f ≡ none) (i k : ℕ) (xs : List ℕ)
    → all_bytes u7 (all_settle u7 (filled u7 n (λ j. f) fn i k xs)) ≡ fill_to f k xs
filled_is n f fn i zero xs = refl
filled_is n f fn i (suc k) [] = ap (λ (l : List ℕ). low f ∷ l) (filled_is n f fn (suc i) k [])
filled_is n f fn i (suc k) (x ∷ xs) = ap (λ (l : List ℕ). low x ∷ l) (filled_is n f fn (suc i) k xs)

pub url_is : (xs : List ℕ) → written url xs ≡ take (min (length xs) 260) xs ++ (0 ∷ [])
url_is xs = ap (λ (l : List ℕ). l ++ (0 ∷ [])) (take_least 260 xs)
