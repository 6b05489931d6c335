-- Little-endian numbers of two, four and eight bytes from a place on.
use Rattle.std.specs.Prelude.{List, ℕ, ◌+◌, ◌*◌, get_or}

abbrev pub little2 : List ℕ → ℕ → ℕ
little2 s at = get_or s at 0 + 256 * get_or s (at + 1) 0

abbrev pub little4 : List ℕ → ℕ → ℕ
little4 s at = little2 s at + 65536 * little2 s (at + 2)

abbrev pub little8 : List ℕ → ℕ → ℕ
little8 s at = little4 s at + 4294967296 * little4 s (at + 4)
