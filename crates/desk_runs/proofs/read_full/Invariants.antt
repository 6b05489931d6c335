-- `desk_runs::read_full` meets its contract. The invariant: what is read is within the buffer, which keeps its length.
-- Assumes nothing.
use Rattle.std.proofs.Common.{◌≡◌, ◌≤◌, ◌-◌, length}
use Rattle.desk_runs.proofs.read_full.Given as goal

abbrev pub invariant-loop-n : goal.invariant-loop-n
invariant-loop-n l = (l.n ≤ length l.initial.room) × (length l.room ≡ length l.initial.room)

abbrev pub decreases-loop-n : goal.decreases-loop-n
decreases-loop-n l = length l.initial.room - l.n
