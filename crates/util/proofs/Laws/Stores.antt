-- A store of one more number, where what stands before it is known.
-- Assumes nothing.
use mathlib.Core.Path.{◌≡◌, ◌∙◌}
use mathlib.Core.List.{List}
use Prim.Native.Nat.{ℕ, ◌+◌, ◌<◌}
use native.Mathlib.Omega.{arith}
use lib.ListN.{length, get_or, set}
use lib.Seq.{get_or-set_same, get_or-set_other}
use borrow.Author.Count.{below_more}

-- what holds of each number below i, and of the one that is stored at i, holds of each below i + 1
pub store_more : (f : ℕ → ℕ) (xs : List ℕ) (i v : ℕ) → i < length xs → v ≡ f i → ((k : ℕ) → k < i → get_or xs k 0 ≡ f k)
    → (k : ℕ) → k < i + 1 → get_or (set xs i v) k 0 ≡ f k
store_more f xs i v h e all =
    below_more (λ (k : ℕ). get_or (set xs i v) k 0 ≡ f k) i
    (λ k l. get_or-set_other xs i k v 0 (λ q. omega arith) ∙ all k l)
    (get_or-set_same xs i v 0 h ∙ e)
