-- What a line of a tuning says.
use Rattle.std.specs.Prelude.{Option, Some, None, Result, Ok, Err, Bool, ◌&&◌, List, ℕ, eqb, length, get_or}
use Rattle.util.specs.Limits.{no_tuning}
use Rattle.util.specs.Pick.{pick}
use Rattle.desk_text.specs.declared.cents.Decimals.{Decimals}
use Rattle.desk_text.specs.Cents.{cents_of}
use Rattle.desk_text.specs.Fractions.{tuned_entry}
use Rattle.desk_text.specs.Keys.{key_of}
use Rattle.desk_text.specs.Lines.{said_part, from_word, word_of, behind_word}
use Rattle.desk_tunings.specs.declared.said.LineError.{LineError}
use Rattle.desk_tunings.specs.declared.said.LineError.TheVariants.{NotTwo, NoKey, NoCents, Outside}

-- what a line says: a key and its entry, or nothing; or what is wrong with it
abbrev pub Said : Type 0
Said = Result (Option (ℕ × ℕ)) LineError

-- the word that says no tuning: -
unfoldable pub is_no_tuning : List ℕ → Bool
is_no_tuning w = eqb (length w) 1 && eqb (get_or w 0 0) 45

-- an entry of a key, or a pitch outside all of them
unfoldable pub said_entry : ℕ → Option ℕ → Said
said_entry key (Some n) = Ok (Some (key, n))
said_entry key None = Err Outside

-- cents of a key, or a word that is none
unfoldable pub said_cents : ℕ → Option Decimals → Said
said_cents key (Some d) = said_entry key (tuned_entry key (Some d))
said_cents key None = Err NoCents

-- the word behind a key: - or cents
unfoldable pub said_word : ℕ → List ℕ → Said
said_word key w = pick (is_no_tuning w) (Ok (Some (key, no_tuning))) (said_cents key (cents_of w))

-- a key and the word behind it, or a word that is no key
unfoldable pub said_key : Option ℕ → List ℕ → Said
said_key (Some key) w = said_word key w
said_key None w = Err NoKey

-- a line's words, from the first on: none, or two, a key and what it gets
unfoldable pub said_words : List ℕ → Said
said_words first =
    pick (eqb (length first) 0)
    (Ok None)
    (pick (eqb (length (behind_word first)) 0)
    (Err NotTwo)
    (pick (eqb (length (behind_word (behind_word first))) 0)
    (said_key (key_of (word_of first)) (word_of (behind_word first)))
    (Err NotTwo)))

-- what a line says before its comment
unfoldable pub said_line : List ℕ → Said
said_line line = said_words (from_word (said_part line))
