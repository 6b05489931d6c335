-- Names of files.
use Rattle.std.specs.Prelude.{Bool, ◌&&◌, List, ℕ, eqb, length, get_or}

-- whether a name is -, which stands for standard input or standard output
unfoldable pub is_dash : List ℕ → Bool
is_dash name = eqb (length name) 1 && eqb (get_or name 0 0) 45
