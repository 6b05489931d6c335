-- A word as a key.
use Rattle.std.specs.Prelude.{Option, Some, None, ◌&&◌, List, [], ◌∷◌, ℕ, ◌+◌, ◌*◌, ◌-◌, eqb, leb, ltb, length, drop, get_or}
use Rattle.util.specs.Limits.{keys}
use Rattle.util.specs.Pick.{pick}
use Rattle.desk_text.specs.Decimal.{number_of}
use Rattle.desk_text.specs.Spans.{is_digit}

-- a letter as a capital
unfoldable pub capital : ℕ → ℕ
capital b = pick (leb 97 b) (b - 32) b

-- the semitones of a letter above C, from A to G in either case
unfoldable pub semitone : ℕ → Option ℕ
semitone b =
    pick (leb 65 (capital b) && leb (capital b) 71)
    (Some (get_or (9 ∷ 11 ∷ 0 ∷ 2 ∷ 4 ∷ 5 ∷ 7 ∷ []) (capital b - 65) 0))
    None

-- one more than the semitones of #, of b, and of any other byte
unfoldable pub shift : ℕ → ℕ
shift b = pick (eqb b 35) 2 (pick (eqb b 98) 0 1)

-- one more than an octave: a digit, or -1
unfoldable pub octave : List ℕ → Option ℕ
octave w =
    pick (eqb (length w) 1 && is_digit (get_or w 0 0))
    (Some (get_or w 0 0 - 47))
    (pick (eqb (length w) 2 && (eqb (get_or w 0 0) 45 && eqb (get_or w 1 0) 49)) (Some 0) None)

-- a number from 0 to 127
unfoldable pub within_keys : ℕ → Option ℕ
within_keys n = pick (ltb n keys) (Some n) None

-- the key that is one less than a number
unfoldable pub key_at : ℕ → Option ℕ
key_at n = pick (eqb n 0) None (within_keys (n - 1))

-- the key of a letter's semitones, a shift and an octave
unfoldable pub named_of : Option ℕ → ℕ → Option ℕ → Option ℕ
named_of (Some l) s (Some o) = key_at (o * 12 + l + s)
named_of (Some l) s None = None
named_of None s o = None

-- the bytes behind a letter and its sharp or flat
unfoldable pub octave_part : List ℕ → List ℕ
octave_part w = drop (pick (eqb (shift (get_or w 1 0)) 1) 1 2) w

-- the key of a name: a letter, # or b or neither, an octave
unfoldable pub name_of : List ℕ → Option ℕ
name_of w = named_of (semitone (get_or w 0 0)) (shift (get_or w 1 0)) (octave (octave_part w))

-- a number's key, or for a word that is no number the key of a name
unfoldable pub key_or_name : Option ℕ → List ℕ → Option ℕ
key_or_name (Some n) w = within_keys n
key_or_name None w = name_of w

-- the key of a word
unfoldable pub key_of : List ℕ → Option ℕ
key_of w = key_or_name (number_of w) w
