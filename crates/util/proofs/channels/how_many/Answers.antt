-- `util::channels::how_many` meets its contract: the bits set in sixteen are counted.
-- Assumes nothing.
use borrow.Author.Rules.{rules}
use Rattle.util.proofs.Laws.Channels.{ones_bits}
use Rattle.util.proofs.channels.how_many.Goals as goal

pub returns : goal.returns
returns c = ones_bits 16 c.args.set (search rules)
