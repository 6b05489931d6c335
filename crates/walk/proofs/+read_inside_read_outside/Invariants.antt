-- The measures of the cycle of calls {read_inside, read_outside}: twice the bytes left, and one more for `read_outside`, which can pass on
-- with no byte read. Assumes nothing.
use Rattle.std.proofs.Common.{◌+◌, ◌-◌, ◌*◌, length}
use Rattle.walk.proofs.+read_inside_read_outside.Given as goal

abbrev pub decreases-read_inside : goal.decreases-read_inside
decreases-read_inside l = 2 * (length l.stream.now.now - l.start)

abbrev pub decreases-read_outside : goal.decreases-read_outside
decreases-read_outside l = 2 * (length l.stream.now.now - l.at) + 1
