-- The lines of a tuning, as the entries of its keys.
use Rattle.std.specs.Prelude.{Some, None, Result, Ok, Err, Bool, true, false, ◌&&◌, List, [], ◌∷◌, ℕ, suc, ◌+◌, ◌*◌, eqb, leb, ltb, length, drop, get_or, set, replicate}
use Rattle.util.specs.Limits.{keys}
use Rattle.util.specs.Pick.{pick}
use Rattle.desk_text.specs.Lines.{mark_length, lines_of}
use Rattle.desk_tunings.specs.declared.said.LineError.TheVariants.{NoKey, Twice}
use Rattle.desk_tunings.specs.declared.keys.LinesError.{LinesError}
use Rattle.desk_tunings.specs.declared.keys.LinesError.TheVariants.{NoLine, Line}
use Rattle.desk_tunings.specs.Lines.{Said, said_line}

-- an entry that no line has named
abbrev pub untold : ℕ
untold = 18446744073709551615

-- how reading lines went: how many keys are set, or what is wrong
abbrev pub Lines : Type 0
Lines = Result ℕ LinesError

-- whether lines are good
unfoldable pub good_lines : Lines → Bool
good_lines (Ok c) = true
good_lines (Err e) = false

-- how many keys good lines set
unfoldable pub set_by : Lines → ℕ
set_by (Ok c) = c
set_by (Err e) = 0

-- how putting what line n says goes, where so many keys are set: one more key is set, or the line is wrong
unfoldable pub put_answer : Said → ℕ → ℕ → List ℕ → Lines
put_answer (Ok (Some (key, e))) n c es =
    pick (leb (length es) key) (Err (Line n NoKey)) (pick (eqb (get_or es key 0) untold) (Ok (c + 1)) (Err (Line n Twice)))
put_answer (Ok None) n c es = Ok c
put_answer (Err e) n c es = Err (Line n e)

-- the entries behind it: the key's entry is the line's where no line has named it
unfoldable pub put_entries : Said → List ℕ → List ℕ
put_entries (Ok (Some (key, e))) es = pick (eqb (get_or es key 0) untold) (set es key e) es
put_entries (Ok None) es = es
put_entries (Err e) es = es

-- the answer and the entries behind lines, up to the first that is wrong, from n lines and c keys that are set on
unfoldable pub read_lines : List (List ℕ) → ℕ → ℕ → List ℕ → Lines × List ℕ
read_lines [] n c es = (Ok c, es)
read_lines (l ∷ ls) n c es =
    pick (good_lines (put_answer (said_line l) (n + 1) c es))
    (read_lines ls (n + 1) (set_by (put_answer (said_line l) (n + 1) c es)) (put_entries (said_line l) es))
    (put_answer (said_line l) (n + 1) c es, put_entries (said_line l) es)

-- the entry of a key in equal temperament
unfoldable pub equal_entry : ℕ → ℕ
equal_entry key = pick (ltb key keys) (key * 65536) 0

-- what a line says of a key, or equal temperament
unfoldable pub filled_entry : ℕ → ℕ → ℕ
filled_entry e key = pick (eqb e untold) (equal_entry key) e

-- the entries from a key on, all of them filled
unfoldable pub filled_from : ℕ → List ℕ → List ℕ
filled_from key [] = []
filled_from key (e ∷ es) = filled_entry e key ∷ filled_from (suc key) es

-- good lines that set no key are none
unfoldable pub counted_of : Lines → Lines
counted_of l = pick (good_lines l && eqb (set_by l) 0) (Err NoLine) l

-- the lines of a text behind its byte order mark, read over so many entries that no line has named
unfoldable pub read_text : List ℕ → ℕ → Lines × List ℕ
read_text s room = read_lines (lines_of (drop (mark_length s) s)) 0 0 (replicate room untold)

-- how reading a text goes
unfoldable pub read_answer : List ℕ → ℕ → Lines
read_answer s room = counted_of (read_text s room).0

-- the entries that a text says
unfoldable pub read_entries : List ℕ → ℕ → List ℕ
read_entries s room = filled_from 0 (read_text s room).1
