-- The texts that are put, as lists of byte codes.
use Rattle.std.specs.Prelude.{Bool, ◌&&◌, ◌||◌, List, [], ◌∷◌, ◌++◌, ℕ, zero, suc, ◌+◌, ◌-◌, ◌/◌, ◌%◌, eqb, ltb, leb}
use Rattle.util.specs.Pick.{pick}

-- ---- numbers

-- the last k decimal digits of a number, with zeros in front
unfoldable pub last_digits : ℕ → ℕ → List ℕ
last_digits zero n = []
last_digits (suc k) n = last_digits k (n / 10) ++ ((48 + n % 10) ∷ [])

-- the decimal digits of a number that has at most k + 1, the fewest
unfoldable pub decimal_of : ℕ → ℕ → List ℕ
decimal_of zero n = (48 + n) ∷ []
decimal_of (suc k) n = pick (ltb n 10) ((48 + n) ∷ []) (decimal_of k (n / 10) ++ ((48 + n % 10) ∷ []))

-- the same of a number that has at most 20, as each of 64 bits
unfoldable pub decimal : ℕ → List ℕ
decimal n = decimal_of 19 n

-- the decimal digits of a number below 1000 ^ (k + 1), with a comma before each three
unfoldable pub with_commas_of : ℕ → ℕ → List ℕ
with_commas_of zero n = decimal n
with_commas_of (suc k) n = pick (ltb n 1000) (decimal n) (with_commas_of k (n / 1000) ++ (44 ∷ last_digits 3 n))

-- the same of a number that has at most 21, as each of 64 bits
unfoldable pub with_commas : ℕ → List ℕ
with_commas n = with_commas_of 6 n

-- plus or minus
abbrev pub sign_of : Bool → List ℕ
sign_of below = pick below (45 ∷ []) (43 ∷ [])

-- a signed whole number
abbrev pub signed : Bool → ℕ → List ℕ
signed below amount = sign_of below ++ decimal amount

-- a signed number of ten thousandths, with four decimals
abbrev pub signed_decimals : Bool → ℕ → List ℕ
signed_decimals below amount = sign_of below ++ (decimal (amount / 10000) ++ (46 ∷ last_digits 4 amount))

-- ---- bytes

-- the hexadecimal digit of a number below sixteen, in upper case
abbrev pub hex_digit_of : ℕ → ℕ
hex_digit_of n = pick (ltb n 10) (48 + n) (55 + n)

-- the two hexadecimal digits of a byte
abbrev pub hex_of : ℕ → List ℕ
hex_of b = hex_digit_of (b / 16) ∷ hex_digit_of (b % 16) ∷ []

-- the texts of bytes, one behind the other; a text is made of a byte and the byte before it, which is p for the first
unfoldable pub each : (ℕ → ℕ → List ℕ) → ℕ → List ℕ → List ℕ
each f p [] = []
each f p (b ∷ s) = f p b ++ each f b s

-- a space and the two hexadecimal digits of a byte
abbrev pub spaced_hex : ℕ → ℕ → List ℕ
spaced_hex p b = 32 ∷ hex_of b

-- bytes in hexadecimal digits, a space before each
abbrev pub hex_all_of : List ℕ → List ℕ
hex_all_of s = each spaced_hex 0 s

-- ---- names

-- a byte as \xHH
abbrev pub escaped : ℕ → List ℕ
escaped b = 92 ∷ 120 ∷ hex_of b

-- a printable byte as it stands, another as \xHH
abbrev pub name_char : ℕ → ℕ → List ℕ
name_char p b = pick (ltb b 32) (escaped b) (pick (ltb 126 b) (escaped b) (b ∷ []))

-- a byte before a list: nothing where it is a space and the list is empty
abbrev pub unless_last_space : ℕ → List ℕ → List ℕ
unless_last_space b [] = pick (eqb b 32) [] (b ∷ [])
unless_last_space b (c ∷ s) = b ∷ c ∷ s

-- a name without the spaces at its end
unfoldable pub trimmed : List ℕ → List ℕ
trimmed [] = []
trimmed (b ∷ s) = unless_last_space b (trimmed s)

-- a name in double quotes
abbrev pub in_quotes : List ℕ → List ℕ
in_quotes s = 34 ∷ (each name_char 0 (trimmed s) ++ (34 ∷ []))

-- a control character of ASCII, or the second byte, behind C2h, of one of UTF-8's
abbrev pub is_control_of : ℕ → ℕ → Bool
is_control_of p b = ltb b 32 || (eqb b 127 || ((leb 128 b && ltb b 160) && eqb p 0xC2))

-- a byte of a file's name: a control character as \xHH
abbrev pub path_char : ℕ → ℕ → List ℕ
path_char p b = pick (is_control_of p b) (escaped b) (b ∷ [])

-- the name of a file
abbrev pub path_of : List ℕ → List ℕ
path_of s = each path_char 0 s

-- ---- keys

-- the name of one of the twelve notes, C first
unfoldable pub note_name : ℕ → List ℕ
note_name n =
    pick (eqb n 0) (67 ∷ []) (
    pick (eqb n 1) (67 ∷ 35 ∷ []) (
    pick (eqb n 2) (68 ∷ []) (
    pick (eqb n 3) (68 ∷ 35 ∷ []) (
    pick (eqb n 4) (69 ∷ []) (
    pick (eqb n 5) (70 ∷ []) (
    pick (eqb n 6) (70 ∷ 35 ∷ []) (
    pick (eqb n 7) (71 ∷ []) (
    pick (eqb n 8) (71 ∷ 35 ∷ []) (
    pick (eqb n 9) (65 ∷ []) (
    pick (eqb n 10) (65 ∷ 35 ∷ []) (66 ∷ [])))))))))))

-- the octave of a key: -1 for the first twelve
abbrev pub octave : ℕ → List ℕ
octave k = pick (ltb k 12) (45 ∷ 49 ∷ []) (decimal (k / 12 - 1))

-- the name of a key with its octave: key 60 is C4
abbrev pub key_name : ℕ → List ℕ
key_name k = note_name (k % 12) ++ octave k
