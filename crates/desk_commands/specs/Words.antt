-- The words of a command: bytes, each word ended by a 0.
use Rattle.std.specs.Prelude.{List, [], ◌∷◌, ℕ, zero, suc, eqb, take, drop}
use Rattle.util.specs.Pick.{pick}

-- how many words there are: how many zeros
unfoldable pub word_count : List ℕ → ℕ
word_count [] = 0
word_count (b ∷ l) = pick (eqb b 0) (suc (word_count l)) (word_count l)

-- how many bytes the first word has: those before the first 0
unfoldable pub first_length : List ℕ → ℕ
first_length [] = 0
first_length (b ∷ l) = pick (eqb b 0) 0 (suc (first_length l))

-- where the word of a number begins, behind so many zeros; the end where there are fewer
unfoldable pub start_at : List ℕ → ℕ → ℕ
start_at [] n = 0
start_at (b ∷ l) zero = 0
start_at (b ∷ l) (suc n) = suc (start_at l (pick (eqb b 0) n (suc n)))

-- the word of a number
unfoldable pub word_at : List ℕ → ℕ → List ℕ
word_at l n = take (first_length (drop (start_at l n) l)) (drop (start_at l n) l)
