-- Laws of the proofs: numbers put of equal values, and bounds of equal numbers.
-- Assumes nothing.
use mathlib.Core.Path.{◌≡◌, sym, subst}
use Prim.Native.Nat.{ℕ, ◌≤◌, ◌<◌}
use mathlib.Core.List.{List}
use Rattle.numbers_of_message.specs.Put.{Put}

-- numbers put of one value are those put of an equal one
pub put_of : {A : Type 0} (f : A → List ℕ) {a b : A} {out after : List ℕ} {n : ℕ} → a ≡ b → Put (f b) out after n → Put (f a) out after n
put_of f {a} {b} {out} {after} {n} e h = subst (λ x. Put (f x) out after n) (sym e) h

pub lt_as : {a b c : ℕ} → b ≡ c → a < b → a < c
lt_as {a} e h = subst (λ (x : ℕ). a < x) e h

pub le_as : {a b c : ℕ} → b ≡ c → b ≤ a → c ≤ a
le_as {a} e h = subst (λ (x : ℕ). x ≤ a) e h
