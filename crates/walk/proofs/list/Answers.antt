-- `walk::list` meets its contract. Assumes nothing.
use Rattle.std.proofs.Common.{◌∙◌, sym, arith, ◌<◌, length}
use Rattle.walk.proofs.Laws.Listing.{going_on, going_past, going_done}
use Rattle.walk.proofs.list.Goals as goal
use Rattle.walk.proofs.list.Goals.{then-frame_at, else-frame_at}

pub loop-start-preserved : goal.loop-start-preserved
loop-start-preserved c =
    let p = c.args in
    let l = c.loop-start in
    let r = c.in-Some.ensures.reached in
    let h : c.in-Some.start < length c.args.stream.now = omega (arith, c.in-Some.ensures.closed.ends, c.in-Some.ensures.closed.fits) in
    let f = c.frame_at.ensures in
    elim c.if-frame_at.branch [
      | then-frame_at w ↦ going_on p.kind p.stream.now p.index.now l.index l.n l.at _ _ l.invariant r h (sym f ∙ w.if-frame_at.true) c.if-frame_at.index c.if-frame_at.n (w.index-is ∙ w.put_pair.ensures) w.n-is
      | else-frame_at w ↦ going_past p.kind p.stream.now p.index.now l.index l.n l.at _ _ l.invariant r h (sym f ∙ w.if-frame_at.false) c.if-frame_at.index c.if-frame_at.n w.index-is w.n-is
    ]

pub returns-clause-listed : goal.returns-clause-listed
returns-clause-listed c =
    let p = c.args in
    (going_done p.kind p.stream.now p.index.now c.loop-start.index c.loop-start.n c.loop-start.at c.loop-start.invariant (c.in_default.ensures p.kind)).1.1
