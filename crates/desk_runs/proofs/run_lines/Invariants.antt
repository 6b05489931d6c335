-- `desk_runs::run_lines` ends: each line begins behind the one before it.
-- Assumes nothing.
use Prim.Native.Nat.{◌-◌}
use lib.ListN.{length}
use Rattle.desk_runs.proofs.run_lines.Given as goal

abbrev pub decreases-loop-at : goal.decreases-loop-at
decreases-loop-at l = length l.s - l.at
