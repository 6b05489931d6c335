-- Texts of single numbers, keys and names, computed.
-- Assumes nothing.
use mathlib.Core.Path.{◌≡◌, refl}
use mathlib.Core.List.{[], ◌∷◌}
use Rattle.desk_print.specs.Text.{decimal_of, decimal, last_digits, with_commas_of, with_commas, signed_decimals, hex_of, each, hex_all_of, trimmed, in_quotes, path_of, note_name, key_name}
use mathlib.Core.Bool.{true}

-- 0
zero_is : decimal 0 ≡ 48 ∷ []
unfolding decimal decimal_of
zero_is = refl

-- 18446744073709551615
largest_is : decimal 18446744073709551615
    ≡ 49 ∷ 56 ∷ 52 ∷ 52 ∷ 54 ∷ 55 ∷ 52 ∷ 52 ∷ 48 ∷ 55 ∷ 51 ∷ 55 ∷ 48 ∷ 57 ∷ 53 ∷ 53 ∷ 49 ∷ 54 ∷ 49 ∷ 53 ∷ []
unfolding decimal decimal_of
largest_is = refl

-- 1,234,567,890,123
commas_are : with_commas 1234567890123 ≡ 49 ∷ 44 ∷ 50 ∷ 51 ∷ 52 ∷ 44 ∷ 53 ∷ 54 ∷ 55 ∷ 44 ∷ 56 ∷ 57 ∷ 48 ∷ 44 ∷ 49 ∷ 50 ∷ 51 ∷ []
unfolding with_commas with_commas_of decimal decimal_of last_digits
commas_are = refl

-- 1,000
thousand_is : with_commas 1000 ≡ 49 ∷ 44 ∷ 48 ∷ 48 ∷ 48 ∷ []
unfolding with_commas with_commas_of decimal decimal_of last_digits
thousand_is = refl

-- -1.0050
decimals_are : signed_decimals true 10050 ≡ 45 ∷ 49 ∷ 46 ∷ 48 ∷ 48 ∷ 53 ∷ 48 ∷ []
unfolding decimal decimal_of last_digits
decimals_are = refl

-- AF
hex_is : hex_of 175 ≡ 65 ∷ 70 ∷ []
hex_is = refl

-- 00 7F, with a space before each
bytes_are : hex_all_of (0 ∷ 127 ∷ []) ≡ 32 ∷ 48 ∷ 48 ∷ 32 ∷ 55 ∷ 70 ∷ []
unfolding each
bytes_are = refl

-- C4
middle_c : key_name 60 ≡ 67 ∷ 52 ∷ []
unfolding note_name decimal decimal_of
middle_c = refl

-- C-1
lowest_key : key_name 0 ≡ 67 ∷ 45 ∷ 49 ∷ []
unfolding note_name decimal decimal_of
lowest_key = refl

-- G9
highest_key : key_name 127 ≡ 71 ∷ 57 ∷ []
unfolding note_name decimal decimal_of
highest_key = refl

-- "A \x0A", of a name with two spaces at its end
name_is : in_quotes (65 ∷ 32 ∷ 10 ∷ 32 ∷ 32 ∷ []) ≡ 34 ∷ 65 ∷ 32 ∷ 92 ∷ 120 ∷ 48 ∷ 65 ∷ 34 ∷ []
unfolding each trimmed
name_is = refl

-- the bytes C2h, \x85
path_is : path_of (194 ∷ 133 ∷ []) ≡ 194 ∷ 92 ∷ 120 ∷ 56 ∷ 53 ∷ []
unfolding each
path_is = refl
