-- What a replay finds of a case, and the numbers that it reads.
use Rattle.std.specs.Prelude.{List, [], ℕ, ltb, length, get_or, Result, Ok, Err}
use Rattle.util.specs.Pick.{pick}
use Rattle.replay_vectors.specs.declared.verdicts.Fault.{Fault}
use Rattle.replay_vectors.specs.declared.verdicts.Fault.TheVariants.{Failed, Malformed}
use Rattle.replay_vectors.specs.Little.{little8}

-- a case is malformed exactly where its parts are not those of its op, and passes exactly where they are and its answer is right
abbrev pub Finds : Result (Unit {0}) Fault → Type 0 → Type 0 → Type 0
Finds (Ok x) IsFormed IsRight = IsFormed × IsRight
Finds (Err Failed) IsFormed IsRight = IsFormed × (IsRight → ⊥)
Finds (Err Malformed) IsFormed IsRight = IsFormed → ⊥

-- the same, where what fails is not told
abbrev pub FindsOnly : Result (Unit {0}) Fault → Type 0 → Type 0 → Type 0
FindsOnly (Ok x) IsFormed IsRight = IsFormed × IsRight
FindsOnly (Err Failed) IsFormed IsRight = IsFormed
FindsOnly (Err Malformed) IsFormed IsRight = IsFormed → ⊥

-- number i of a list; past its end that of a place that was lent, before a call
abbrev pub number_at : List (List ℕ) → ℕ → ℕ
number_at l i = pick (ltb i (length l)) (little8 (get_or l i []) 0) 4294967295
