-- A value of one byte by place.
-- Assumes nothing.
use mathlib.Core.Path.{◌≡◌, sym, ap, ◌∙◌}
use mathlib.Core.List.{List, [], ◌∷◌, ◌++◌}
use Prim.Native.Nat.{ℕ, suc, ◌+◌, ◌<◌}
use native.Mathlib.Numerals.{add-one}
use lib.ListN.{length, drop, get_or}
use lib.Seq.{drop-cons}
use Rattle.messages.specs.format.Core.{Part, got}

-- a settled value of one byte
pub byte_at : {A : Type 0} (p : Part A) (a : A) (f : List ℕ) (i : ℕ) → p.settled a → i < length f → p.bytes a ≡ get_or f i 0 ∷ []
    → p.read (drop i f) ≡ got a (drop (i + 1) f)
byte_at p a f i h n e =
    rw (drop-cons f i 0 n, add-one i) (ap (λ (l : List ℕ). p.read (l ++ drop (suc i) f)) (sym e) ∙ p.back a (drop (suc i) f) h)

pub first_same : {a b : ℕ} → a ∷ [] ≡ b ∷ [] → b ≡ a
first_same e = cc
