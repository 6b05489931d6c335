-- What stands behind the maker of an identity reply, by place; and the one byte 00 of the handshake messages that have no number.
use Rattle.std.specs.Prelude.{Bool, false, List, [], ◌∷◌, ℕ, ◌+◌, eqb}
use Rattle.messages.specs.Structures.{AfterMaker}
use Rattle.read_places.specs.Places.{value_at}

-- "family, member (u14 each), four u7", from i on
abbrev pub after_maker_at : List ℕ → ℕ → AfterMaker
after_maker_at f i = (value_at 2 f i, (value_at 2 f (i + 2), (value_at 1 f (i + 4), (value_at 1 f (i + 5), (value_at 1 f (i + 6), value_at 1 f (i + 7))))))

-- "00", and nothing behind it
abbrev pub one_zero : List ℕ → Bool
one_zero [] = false
one_zero (b ∷ []) = eqb b 0
one_zero (b ∷ c ∷ l) = false
