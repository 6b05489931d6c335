-- A word as a number of cents, in ten trillionths of a cent.
use Rattle.std.specs.Prelude.{Option, Some, None, Bool, true, false, not, ◌&&◌, ◌||◌, List, [], ◌∷◌, ℕ, zero, suc, ◌+◌, ◌*◌, ◌-◌, min, eqb, length, take, drop, get_or}
use Rattle.util.specs.Pick.{pick}
use Rattle.desk_text.specs.declared.cents.Decimals.{Decimals}
use Rattle.desk_text.specs.declared.cents.Decimals.TheVariants.{Above, Below}
use Rattle.desk_text.specs.Spans.{is_digit, is_point, is_three, span}

-- the most that a number is read as, outside every range: 100,000 cents
abbrev pub most : ℕ
most = 1000000000000000000

-- a number with digits behind its own
unfoldable pub value_after : ℕ → List ℕ → ℕ
value_after n [] = n
value_after n (b ∷ l) = value_after (n * 10 + (b - 48)) l

-- so many digits: those of a list, with zeros behind them
unfoldable pub padded : ℕ → List ℕ → List ℕ
padded zero l = []
padded (suc k) [] = 48 ∷ padded k []
padded (suc k) (b ∷ l) = b ∷ padded k l

-- whether all bytes are digits: none stops them
unfoldable pub are_digits : List ℕ → Bool
are_digits l = eqb (span (λ b. not (is_digit b)) l) (length l)

-- the bytes before the first point or comma
unfoldable pub whole_of : List ℕ → List ℕ
whole_of w = take (span is_point w) w

-- the bytes behind the first point or comma
unfoldable pub decimals_of : List ℕ → List ℕ
decimals_of w = drop (suc (span is_point w)) w

-- the ten trillionths of digits and decimals: those behind the thirteenth are cut off; nothing without a digit
unfoldable pub joined_of : List ℕ → List ℕ → Option ℕ
joined_of whole decimals =
    pick (are_digits whole && are_digits decimals)
    (pick (eqb (length whole) 0 && eqb (length decimals) 0)
    None
    (Some (min (value_after (value_after 0 whole) (padded 13 decimals)) most)))
    None

-- the ten trillionths of a word without a sign
unfoldable pub unsigned_of : List ℕ → Option ℕ
unsigned_of w = joined_of (whole_of w) (decimals_of w)

-- the bytes of a sign: +, -, or U+2212, which is E2 88 92
unfoldable pub sign_length : List ℕ → ℕ
sign_length w = pick (eqb (get_or w 0 0) 43) 1 (pick (eqb (get_or w 0 0) 45) 1 (pick (is_three 0xE2 0x88 0x92 w) 3 0))

-- whether the sign is - or U+2212
unfoldable pub is_minus : List ℕ → Bool
is_minus w = eqb (get_or w 0 0) 45 || is_three 0xE2 0x88 0x92 w

-- a number above zero, or below it
unfoldable pub with_sign_of : Option ℕ → Bool → Option Decimals
with_sign_of (Some n) true = Some (Below n)
with_sign_of (Some n) false = Some (Above n)
with_sign_of None s = None

-- the signed ten trillionths of a word
unfoldable pub cents_of : List ℕ → Option Decimals
cents_of w = with_sign_of (unsigned_of (drop (sign_length w) w)) (is_minus w)
