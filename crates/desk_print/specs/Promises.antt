-- What printing promises, as propositions: the theorems of proofs/Promises.antt have these types.
use Rattle.std.specs.Prelude.{◌≡◌, Some, ℕ, ◌<◌}
use Rattle.util.specs.Limits.{keys}
use Rattle.desk_text.specs.Keys.{key_of}
use Rattle.desk_print.specs.Text.{key_name}

-- every key is read back from its name, as it is put
abbrev pub NamesBack : Type 0
NamesBack = (k : ℕ) → k < keys → key_of (key_name k) ≡ Some k
