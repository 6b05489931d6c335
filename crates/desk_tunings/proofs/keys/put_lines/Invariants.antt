-- `desk_tunings::keys::put_lines` meets its contract. The invariant: the lines that are left give what all lines give; there are no more keys set than lines, and no more lines than bytes.
-- Assumes nothing.
use mathlib.Core.Path.{◌≡◌}
use Prim.Native.Nat.{◌+◌, ◌≤◌}
use lib.ListN.{length, drop}
use Rattle.desk_text.specs.Lines.{mark_length, lines_of}
use Rattle.desk_tunings.specs.Keys.{read_lines}
use Rattle.desk_tunings.proofs.keys.put_lines.Given as goal

abbrev pub invariant-loop-rest : goal.invariant-loop-rest
invariant-loop-rest l =
    (l.n + length l.rest ≤ length l.s) × (l.set ≤ l.n) × (length l.entries ≡ length l.initial.entries) × (read_lines (lines_of l.rest) l.n l.set l.entries ≡ read_lines (lines_of (drop (mark_length l.s) l.s)) 0 0 l.initial.entries)

abbrev pub decreases-loop-rest : goal.decreases-loop-rest
decreases-loop-rest l = length l.rest
