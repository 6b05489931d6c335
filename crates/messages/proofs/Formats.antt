-- What is written through a value of another type, and of a list whose elements have one length.
-- Assumes nothing.
use mathlib.Core.Path.{◌≡◌, sym, ap, ◌∙◌}
use mathlib.Core.List.{List, [], ◌∷◌}
use mathlib.Core.Option.{none}
use Prim.Native.Nat.{ℕ, ◌*◌}
use native.Mathlib.Nat.{mul-zero, mul-suc}
use native.Mathlib.Omega.{arith}
use lib.ListN.{length, length-append}
use Rattle.messages.specs.format.{Part, written, via, all_bytes, all_settle, exactly, filled_same}

-- the bytes are those of the value that is written
pub via_written : {A B : Type 0} (to : B → A) (from : A → B) (p : Part A) (same : (a : A) → p.settled a → to (from a) ≡ a) (b : B)
    → p.refuses (to b) ≡ none → written (via to from p same) b ≡ written p (to b)
via_written to from p same b e = ap p.bytes (same (p.settle (to b)) (p.keeps (to b) e))

-- the bytes of a list, n for each element
pub all_size : {A : Type 0} (p : Part A) (n : ℕ) → ((a : A) → length (p.bytes a) ≡ n) → (l : List A) → length (all_bytes p l) ≡ n * length l
all_size p n each [] = sym (mul-zero n)
all_size p n each (x ∷ l) = length-append (p.bytes x) (all_bytes p l) ∙ omega (arith, each x, all_size p n each l, mul-suc n (length l))

-- of a list that has the length wanted, nothing is cut or filled
pub exactly_whole : {A : Type 0} (p : Part A) (n : ℕ) (fill : ℕ → A) (fill_none : (i : ℕ) → p.refuses (fill i) ≡ none) (l : List A)
    → length l ≡ n → (exactly p n fill fill_none).settle l ≡ all_settle p l
exactly_whole p n fill fill_none l e = ap (all_settle p) (filled_same p n fill fill_none 0 n l e)
