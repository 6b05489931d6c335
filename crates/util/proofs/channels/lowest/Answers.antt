-- `util::channels::lowest` meets its contract: the lowest channel is one more than the zeros below it.
-- Assumes nothing.
use Rattle.std.proofs.Common.{rules, arith, sym, ◌<◌}
use Rattle.util.proofs.Laws.Channels.{lowest_zeros}
use Rattle.util.proofs.channels.lowest.Goals as goal

pub returns : goal.returns
returns c =
    let n = c.args.set in
    let p : 0 < n = omega arith in
    sym (lowest_zeros 16 1 n (search rules) p)
