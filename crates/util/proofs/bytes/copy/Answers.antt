-- `util::bytes::copy` meets its contract: no store is left.
-- Assumes nothing.
use Rattle.util.proofs.Laws.Splice.{store_done}
use Rattle.util.proofs.bytes.copy.Goals as goal

pub returns : goal.returns
returns c =
    let l = c.loop-i in store_done c.args.s.now l.out c.args.out.now l.i c.loop-i-test.false c.requires l.invariant.1
