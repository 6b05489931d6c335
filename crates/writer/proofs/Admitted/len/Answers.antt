-- `writer::Admitted::len` meets its contract: the sizes add up to the frame.
-- Assumes nothing.
use Rattle.writer.proofs.Laws.Sums.{total_is}
use Rattle.writer.proofs.Admitted.len.Goals as goal

pub returns : goal.returns
returns c =
    let a = c.args.self.now in
    total_is c.sizes.result c.args.device a.m a.text a.entries _ c.sizes.ensures c.total.ensures
