-- `write_lists::format::put_each` meets its contract.
-- Assumes nothing.
use Rattle.write_lists.proofs.Laws.Lists.{each_step}
use Rattle.write_lists.proofs.format.put_each.Goals as goal

pub loop-i-preserved : goal.loop-i-preserved
loop-i-preserved g c =
    let l = c.loop-i in
    each_step g.F.Format.bytes g.F.Format.SIZE c.SIZE.result l.i c.args.values.now c.index-values-i.result l.out c.put.new.out _
    c.SIZE.ensures c.loop-i-test.true c.index-values-i.is (g.met.F.Format.sized c.index-values-i.result) (rw l.auto.out c.requires) c.put.ensures l.invariant
