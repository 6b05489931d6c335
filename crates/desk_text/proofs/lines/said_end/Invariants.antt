-- `desk_text::lines::said_end` meets its contract. The invariant: what is left from i on says where the whole ends.
-- Assumes nothing.
use mathlib.Core.Path.{◌≡◌}
use mathlib.Core.Bool.{true}
use Prim.Native.Nat.{◌+◌}
use lib.ListN.{drop}
use Rattle.desk_text.specs.Lines.{said_length}
use Rattle.desk_text.proofs.lines.said_end.Given as goal

abbrev pub invariant-loop-i : goal.invariant-loop-i
invariant-loop-i l = l.i + said_length l.may_begin (drop l.i l.line) ≡ said_length true l.line
