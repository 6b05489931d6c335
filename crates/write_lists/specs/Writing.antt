-- Steps of writing a part: bytes held and filled, values one after another.
use Rattle.std.specs.Prelude.{List, [], ◌∷◌, ◌++◌, ℕ, zero, suc, ◌%◌}
use Rattle.util.specs.Groups.{held}

-- a byte held to 127
abbrev pub low : ℕ → ℕ
low b = held 1 b % 128

-- n bytes of a text, each held to 127; what is missing is f
abbrev pub fill_to : ℕ → ℕ → List ℕ → List ℕ
fill_to f zero xs = []
fill_to f (suc n) [] = low f ∷ fill_to f n []
fill_to f (suc n) (x ∷ xs) = low x ∷ fill_to f n xs

-- what is written of values, one after another
abbrev pub each : {A : Type 0} → (A → List ℕ) → List A → List ℕ
each f [] = []
each f (x ∷ xs) = f x ++ each f xs
