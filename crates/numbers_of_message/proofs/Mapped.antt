-- Laws of the proofs: an array that a closure makes from each element of another.
-- Assumes nothing.
use mathlib.Core.Path.{◌≡◌, sym, ap, ◌∙◌, subst}
use mathlib.Core.List.{List, map}
use Prim.Native.Nat.{ℕ, zero, suc, ◌+◌, ◌<◌}
use native.Mathlib.Omega.{arith}
use lib.ListN.{get_or}
use Rattle.std.specs.Fn.{Mut, Called}
use Rattle.std.specs.List.{range_with_len}
use Rattle.std.specs.Array.{MapsFrom, IsMapOf}
use Rattle.std.proofs.lemmas.List.FromFn.{fill_by_all}

-- each call of the closure answers h of the element
module _ {F A B : Type 0} (g : Mut F (A × Unit {0}) B) (h : A → B) (turn : (p q : F) (x : A) (y : B) → Called g p (x, tt) y q → y ≡ h x) where
  each_is : (xs : List A) (ys : List B) (a : A) (b : B) (n i : ℕ) (f : F) → MapsFrom g f xs ys i n → (k j : ℕ) → k < n → i + k ≡ j → get_or ys j b ≡ h (get_or xs j a)
  each_is xs ys a b zero i f r k j l e = absurd (omega arith)
  each_is xs ys a b (suc n) i f r zero j l e =
      let s : i ≡ j = omega arith in
      subst (λ (m : ℕ). get_or ys m b ≡ h (get_or xs m a)) s (r.4.1 b ∙ turn f r.0 r.1 r.2 r.5 ∙ sym (ap h (r.3.1 a)))
  each_is xs ys a b (suc n) i f r (suc k) j l e = each_is xs ys a b n (i + 1) r.0 r.6 k j (omega arith) (omega arith)

  pub map_is : (f : F) (xs : List A) (ys : List B) (a : A) (b : B) (n : ℕ) → IsMapOf g f xs ys n → ys ≡ map (λ k. h (get_or xs k a)) (range_with_len 0 n)
  map_is f xs ys a b n r = fill_by_all (λ k. h (get_or xs k a)) ys n b r.long (λ k l. each_is xs ys a b n 0 f r.each k k l (omega arith))
