-- Words that are joined are counted and found. Assumes nothing.
use mathlib.Core.Path.{◌≡◌, refl, ap, ◌∙◌}
use mathlib.Core.List.{List, [], ◌∷◌}
use Prim.Native.Nat.{ℕ, zero, suc}
use lib.ListN.{length, get_or}
use Rattle.desk_commands.specs.Words.{word_count, word_at}
use Rattle.desk_commands.specs.Promises.{Plains, joined, WordsBack}
use Rattle.desk_commands.proofs.Laws.Words.{count_front, word_front, word_behind, word_none}

counted_back : (ws : List (List ℕ)) → Plains ws → word_count (joined ws) ≡ length ws
unfolding word_count
counted_back [] p = refl
counted_back (w ∷ ws) p = count_front w (joined ws) p.0 ∙ ap suc (counted_back ws p.1)

found_back : (ws : List (List ℕ)) → Plains ws → (n : ℕ) → word_at (joined ws) n ≡ get_or ws n []
found_back [] p n = word_none n
found_back (w ∷ ws) p zero = word_front w (joined ws) p.0
found_back (w ∷ ws) p (suc n) = word_behind n w (joined ws) p.0 ∙ found_back ws p.1 n

pub words_back : WordsBack
words_back ws p = (counted_back ws p, found_back ws p)
