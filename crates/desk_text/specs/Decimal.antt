-- A word as a number: its digits to the base ten.
use Rattle.std.specs.Prelude.{Option, Some, None, List, [], ◌∷◌, ℕ, ◌+◌, ◌*◌, ◌-◌, ltb}
use Rattle.util.specs.Pick.{pick}

-- the number of the digits that follow a number so far; nothing where a byte is no digit, or where the number so far is too large to go on
unfoldable pub after : ℕ → List ℕ → Option ℕ
after n [] = Some n
after n (b ∷ l) = pick (ltb b 48) None (pick (ltb 57 b) None (pick (ltb 1000000000000000 n) None (after (n * 10 + (b - 48)) l)))

-- the number of a word, which has a digit at least
unfoldable pub number_of : List ℕ → Option ℕ
number_of [] = None
number_of (b ∷ l) = after 0 (b ∷ l)
