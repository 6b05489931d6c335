-- `desk_print::names::path` meets its contract. The invariant: the texts of the bytes so far are put, and the byte before is known.
-- Assumes nothing.
use mathlib.Core.Path.{◌≡◌}
use mathlib.Core.List.{◌∷◌}
use lib.ListN.{take, get_or}
use Rattle.desk_print.specs.Output.{Put}
use Rattle.desk_print.specs.Text.{each, path_char}
use Rattle.desk_print.proofs.names.path.Given as goal

abbrev pub invariant-loop-b : goal.invariant-loop-b
invariant-loop-b l = (l.before ≡ get_or (0 ∷ l.s) l.b-index 0) × Put l.initial.out (each path_char 0 (take l.b-index l.s)) l.out
