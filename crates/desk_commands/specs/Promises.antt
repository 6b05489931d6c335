-- What the words of a command promise, as a proposition: the theorem of proofs/ has this type.
use Rattle.std.specs.Prelude.{◌≡◌, List, [], ◌∷◌, ◌++◌, ℕ, length, get_or}
use Rattle.desk_commands.specs.Words.{word_count, word_at}

-- bytes without a 0
abbrev pub Plain : List ℕ → Type 0
Plain [] = Unit {0}
Plain (b ∷ l) = (b ≡ 0 → ⊥) × Plain l

-- words without a 0
abbrev pub Plains : List (List ℕ) → Type 0
Plains [] = Unit {0}
Plains (w ∷ ws) = Plain w × Plains ws

-- words one behind another, each ended by a 0
abbrev pub joined : List (List ℕ) → List ℕ
joined [] = []
joined (w ∷ ws) = w ++ 0 ∷ joined ws

-- words that are joined are counted, and each is found by its number; behind the last there are none
abbrev pub WordsBack : Type 0
WordsBack =
    (ws : List (List ℕ)) → Plains ws
    → (word_count (joined ws) ≡ length ws) × ((n : ℕ) → word_at (joined ws) n ≡ get_or ws n [])
