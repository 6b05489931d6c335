-- Laws of the proofs: an array that a closure makes from each index.
-- Assumes nothing.
use mathlib.Core.Path.{◌≡◌, ◌∙◌, subst}
use mathlib.Core.List.{List, map}
use Prim.Native.Nat.{ℕ, zero, suc, ◌+◌, ◌<◌}
use native.Mathlib.Omega.{arith}
use lib.ListN.{get_or}
use Rattle.std.specs.Fn.{Mut, Called}
use Rattle.std.specs.List.{range_with_len}
use Rattle.std.specs.Array.{IsFromFnResultFrom, IsFromFnResult}
use Rattle.std.proofs.lemmas.List.FromFn.{fill_by_all}

-- P holds of what the closure has captured, and its call at an index answers h of it
module _ {F B : Type 0} (g : Mut F (ℕ × Unit {0}) B) (h : ℕ → B) (P : F → Type 0) (turn : (p q : F) (k : ℕ) (y : B) → P p → Called g p (k, tt) y q → P q × (y ≡ h k)) where
  each_is : (ys : List B) (d : B) (n i : ℕ) (f : F) → P f → IsFromFnResultFrom g f ys i n → (k j : ℕ) → k < n → i + k ≡ j → get_or ys j d ≡ h j
  each_is ys d zero i f p r k j l e = absurd (omega arith)
  each_is ys d (suc n) i f p r zero j l e = let s : i ≡ j = omega arith in subst (λ (x : ℕ). get_or ys x d ≡ h x) s (r.2.1 d ∙ (turn f r.0 i r.1 p r.3).1)
  each_is ys d (suc n) i f p r (suc k) j l e = each_is ys d n (i + 1) r.0 (turn f r.0 i r.1 p r.3).0 r.4 k j (omega arith) (omega arith)

  pub from_fn_is : (f : F) (ys : List B) (d : B) (n : ℕ) → P f → IsFromFnResult g f ys n → ys ≡ map h (range_with_len 0 n)
  from_fn_is f ys d n p r = fill_by_all h ys n d r.long (λ k l. each_is ys d n 0 f p r.each k k l (omega arith))
