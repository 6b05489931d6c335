-- Twelve values in cents.
use Rattle.std.specs.Prelude.{Option, Some, None, Result, Ok, Err, Bool, true, false, ◌&&◌, List, [], ◌∷◌, ℕ, zero, suc, ◌+◌, ◌*◌, ◌-◌, ◌/◌, ◌%◌, eqb, leb, ltb, length, drop, set}
use Rattle.util.specs.Pick.{pick}
use Rattle.desk_text.specs.Spans.{is_line_end, is_blank, span}
use Rattle.desk_text.specs.Lines.{mark_length, begins_comment, word_of}
use Rattle.desk_text.specs.Cents.{cents_of}
use Rattle.desk_text.specs.declared.cents.Decimals.{Decimals}
use Rattle.desk_text.specs.declared.cents.Decimals.TheVariants.{Above, Below}
use Rattle.desk_tunings.specs.declared.scale.ValuesError.{ValuesError}
use Rattle.desk_tunings.specs.declared.scale.ValuesError.TheVariants.{NoValue, NoNumber, Outside, TooFew, TooMany}

-- a cent in ten trillionths
abbrev pub cent : ℕ
cent = 10000000000000

-- zero among the values
abbrev pub zero_value : ℕ
zero_value = 200 * cent

-- how reading values went: they are good, or what is wrong with them
abbrev pub Values : Type 0
Values = Result (Unit {0}) ValuesError

-- a value from -100 to 99.99 cents
unfoldable pub value_of : Option Decimals → Option ℕ
value_of (Some (Above a)) = pick (leb a (9999 * (cent / 100))) (Some (zero_value + a)) None
value_of (Some (Below a)) = pick (leb a (100 * cent)) (Some (zero_value - a)) None
value_of None = None

-- what is wrong with value n that is none
unfoldable pub refused_as : Option Decimals → ℕ → ValuesError
refused_as (Some d) n = Outside n
refused_as None n = NoNumber n

-- how putting a value, where there is one, goes, and what is wrong where there is none
unfoldable pub value_answer : Option ℕ → ValuesError → Values
value_answer (Some v) e = Ok tt
value_answer None e = Err e

-- a value, where there is one, and what is wrong where there is none
unfoldable pub value_or : Option ℕ → ValuesError → Result ℕ ValuesError
value_or (Some v) e = Ok v
value_or None e = Err e

-- how putting a word's value at place n goes
unfoldable pub word_answer : Option Decimals → ℕ → Values
word_answer d n = value_answer (value_of d) (refused_as d (n + 1))

-- the values behind a value, where there is one, that is put at place n
unfoldable pub put_value : Option ℕ → ℕ → List ℕ → List ℕ
put_value (Some v) n vs = set vs n v
put_value None n vs = vs

-- the values behind a word's value at place n
unfoldable pub word_values : Option Decimals → ℕ → List ℕ → List ℕ
word_values d n vs = put_value (value_of d) n vs

-- whether values are good
unfoldable pub good_values : Values → Bool
good_values (Ok u) = true
good_values (Err e) = false

-- whether n values are twelve
unfoldable pub counted_as : ℕ → Values
counted_as n = pick (eqb n 0) (Err NoValue) (pick (ltb n 12) (Err (TooFew n)) (Ok tt))

-- the words of a text without its comments, which end with their line, within so many bytes
unfoldable pub words_within : ℕ → List ℕ → List (List ℕ)
words_within zero t = []
words_within (suc n) [] = []
words_within (suc n) (b ∷ l) =
    pick (is_blank b)
    (words_within n l)
    (pick (begins_comment true b)
    (words_within n (drop (span is_line_end l) l))
    (word_of (b ∷ l) ∷ words_within n (drop (span is_blank l) l)))

-- the words of a text without its comments
unfoldable pub words_of : List ℕ → List (List ℕ)
words_of t = words_within (length t) t

-- the answer and the values behind words, each put in order from place n on, up to the first that is wrong
unfoldable pub read_words : List (List ℕ) → ℕ → List ℕ → Values × List ℕ
read_words [] n vs = (counted_as n, vs)
read_words (w ∷ ws) n vs =
    pick (leb (length vs) n)
    (Err TooMany, vs)
    (pick (good_values (word_answer (cents_of w) n))
    (read_words ws (n + 1) (word_values (cents_of w) n vs))
    (word_answer (cents_of w) n, word_values (cents_of w) n vs))

-- the answer and the values behind a text, from behind its byte order mark on
unfoldable pub read_values : List ℕ → List ℕ → Values × List ℕ
read_values s vs = read_words (words_of (drop (mark_length s) s)) 0 vs

-- a value of whole cents from -64 to 63
unfoldable pub is_whole_value : ℕ → Bool
is_whole_value v = leb (zero_value - 64 * cent) v && (leb v (zero_value + 63 * cent) && eqb (v % cent) 0)

-- whether all values are whole cents from -64 to 63
unfoldable pub are_whole_values : List ℕ → Bool
are_whole_values [] = true
are_whole_values (v ∷ vs) = is_whole_value v && are_whole_values vs
