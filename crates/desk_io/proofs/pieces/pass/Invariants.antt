-- `desk_io::pieces::pass` is safe and ends. The invariant: the buffer keeps its length.
-- Assumes nothing.
use mathlib.Core.Path.{◌≡◌}
use lib.ListN.{length}
use Rattle.desk_io.proofs.pieces.pass.Given as goal

abbrev pub invariant-loop-left : goal.invariant-loop-left
invariant-loop-left l = length l.room ≡ length l.initial.room

abbrev pub decreases-loop-left : goal.decreases-loop-left
decreases-loop-left l = l.left
