-- Stretches of bytes, by the byte that ends them.
use Rattle.std.specs.Prelude.{Bool, ◌&&◌, ◌||◌, List, [], ◌∷◌, ℕ, suc, eqb, leb, get_or}
use Rattle.util.specs.Pick.{pick}

-- a byte that ends a line: LF or CR
unfoldable pub is_line_end : ℕ → Bool
is_line_end b = eqb b 10 || eqb b 13

-- a byte that parts words: a space, a tab, or one that ends a line
unfoldable pub is_blank : ℕ → Bool
is_blank b = eqb b 32 || (eqb b 9 || is_line_end b)

-- a byte before decimals: a point or a comma
unfoldable pub is_point : ℕ → Bool
is_point b = eqb b 46 || eqb b 44

-- a digit
unfoldable pub is_digit : ℕ → Bool
is_digit b = leb 48 b && leb b 57

-- whether bytes begin with these three
unfoldable pub is_three : ℕ → ℕ → ℕ → List ℕ → Bool
is_three a b c s = eqb (get_or s 0 0) a && (eqb (get_or s 1 0) b && eqb (get_or s 2 0) c)

-- how many leading bytes do not satisfy a test
unfoldable pub span : (ℕ → Bool) → List ℕ → ℕ
span p [] = 0
span p (b ∷ l) = pick (p b) 0 (suc (span p l))
