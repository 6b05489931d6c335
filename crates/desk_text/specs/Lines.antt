-- Lines and words of text.
use Rattle.std.specs.Prelude.{Bool, true, ◌&&◌, ◌||◌, not, List, [], ◌∷◌, ℕ, zero, suc, ◌+◌, eqb, length, take, drop, get_or}
use Rattle.util.specs.Pick.{pick}
use Rattle.desk_text.specs.Spans.{is_line_end, is_blank, is_three, span}

-- the bytes of a byte order mark at the start: EF BB BF
unfoldable pub mark_length : List ℕ → ℕ
mark_length s = pick (is_three 0xEF 0xBB 0xBF s) 3 0

-- the bytes of the line end at the start: none at the end of the text, two of CR LF, else one
unfoldable pub end_length : List ℕ → ℕ
end_length [] = 0
end_length (b ∷ l) = pick (eqb b 13 && eqb (get_or l 0 0) 10) 2 1

-- a byte that begins a comment where a word may begin: # or !
unfoldable pub begins_comment : Bool → ℕ → Bool
begins_comment may-begin b = may-begin && (eqb b 35 || eqb b 33)

-- how many bytes stand before a comment, where a word may begin at the first byte or may not
unfoldable pub said_length : Bool → List ℕ → ℕ
said_length may-begin [] = 0
said_length may-begin (b ∷ l) = pick (begins_comment may-begin b) 0 (suc (said_length (is_blank b) l))

-- what a line says before its comment
unfoldable pub said_part : List ℕ → List ℕ
said_part line = take (said_length true line) line

-- the bytes from the first word on
unfoldable pub from_word : List ℕ → List ℕ
from_word s = drop (span (λ b. not (is_blank b)) s) s

-- the word that bytes begin with
unfoldable pub word_of : List ℕ → List ℕ
word_of s = take (span is_blank s) s

-- the bytes from the word behind the first on
unfoldable pub behind_word : List ℕ → List ℕ
behind_word s = from_word (drop (span is_blank s) s)

-- the line that a text begins with
unfoldable pub line_of : List ℕ → List ℕ
line_of t = take (span is_line_end t) t

-- the text behind its first line and the end of it
unfoldable pub behind_line : List ℕ → List ℕ
behind_line t = drop (span is_line_end t + end_length (drop (span is_line_end t) t)) t

-- the lines of a text, at most so many
unfoldable pub lines_within : ℕ → List ℕ → List (List ℕ)
lines_within zero t = []
lines_within (suc n) [] = []
lines_within (suc n) (b ∷ l) = line_of (b ∷ l) ∷ lines_within n (behind_line (b ∷ l))

-- the lines of a text, of which there are no more than bytes
unfoldable pub lines_of : List ℕ → List (List ℕ)
lines_of t = lines_within (length t) t
