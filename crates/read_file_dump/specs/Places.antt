-- A file type by place.
use Rattle.std.specs.Prelude.{List, ℕ, ◌+◌}
use Rattle.messages.specs.declared.file_dump.FileType.{FileType}
use Rattle.messages.specs.Fields.{type_of}
use Rattle.read_places.specs.Places.{value_at}

-- the type whose four letters stand at i
abbrev pub type_at : List ℕ → ℕ → FileType
type_at f i = type_of (value_at 1 f i, (value_at 1 f (i + 1), (value_at 1 f (i + 2), value_at 1 f (i + 3))))
