-- What the loop of `walk::list` keeps: what is put and counted once the frames from `at` on are, is what is to be put and counted.
-- Assumes nothing.
use Rattle.std.proofs.Common.{◌-◌, length}
use Rattle.walk.proofs.Laws.Listing.{Going}
use Rattle.walk.proofs.list.Given as goal

abbrev pub invariant-loop-start : goal.invariant-loop-start
invariant-loop-start l = Going l.kind l.stream l.initial.index l.index l.n l.at

abbrev pub decreases-loop-start : goal.decreases-loop-start
decreases-loop-start l = length l.stream - l.at
