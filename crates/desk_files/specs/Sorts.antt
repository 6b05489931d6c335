-- Other sorts of files, told by how they begin.
use Rattle.std.specs.Prelude.{Bool, true, ◌&&◌, ◌||◌, List, [], ◌∷◌, ℕ, eqb, leb, ltb, drop, get_or}
use Rattle.util.specs.Pick.{pick}
use Rattle.desk_text.specs.Spans.{is_three}
use Rattle.desk_text.specs.Lines.{mark_length}
use Rattle.desk_files.specs.declared.sorts.Sort.{Sort}
use Rattle.desk_files.specs.declared.sorts.Sort.TheVariants.{Capture, MidiFile, SoundFile, Scala, Text}

-- whether bytes begin with these four
unfoldable pub begins : ℕ → ℕ → ℕ → ℕ → List ℕ → Bool
begins a b c d s = is_three a b c s && eqb (get_or s 3 0) d

-- a byte of text: a tab, a line feed, a form feed, a carriage return, or a printable one
unfoldable pub is_text_byte : ℕ → Bool
is_text_byte b = eqb b 9 || (eqb b 10 || (eqb b 12 || (eqb b 13 || (leb 32 b && ltb b 127))))

-- whether all bytes are bytes of text
unfoldable pub is_text : List ℕ → Bool
is_text [] = true
is_text (b ∷ l) = is_text_byte b && is_text l

-- the sort of bytes behind a mark: a capture where there are none or one is not of text, a Scala file where the first is !
unfoldable pub sort_of_text : List ℕ → Sort
sort_of_text [] = Capture
sort_of_text (b ∷ l) = pick (is_text (b ∷ l)) (pick (eqb b 33) Scala Text) Capture

-- the sort of a file: MThd and RIFF begin other files
unfoldable pub sort_of : List ℕ → Sort
sort_of s =
    pick (begins 77 84 104 100 s) MidiFile
    (pick (begins 82 73 70 70 s) SoundFile (sort_of_text (drop (mark_length s) s)))
