-- The packets of a file dump, one behind another: their numbers are counted round 128.
use Rattle.std.specs.Prelude.{Bool, true, Option, None, Some, ℕ, ◌+◌, ◌%◌, eqb, ltb}
use Rattle.util.specs.Pick.{pick}

-- whether the packet of a number may follow the last one; any may be the first, or behind a number that no packet has
abbrev pub is_next : Option ℕ → ℕ → Bool
is_next None number = true
is_next (Some last) number = pick (ltb last 128) (eqb ((last + 1) % 128) number) true
