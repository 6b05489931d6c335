-- `desk_files::walks::each_frame` meets its contract. A turn visits the frame of its pair, where it begins before the next piece.
-- Assumes nothing.
use mathlib.Core.Path.{sym, subst}
use denote.Param.Always.{always_mut, mut_next}
use Rattle.desk_files.proofs.Laws.Walks.{items_count, visits_none, visits_all, visited_none, visited_more, visited_same}
use Rattle.desk_files.proofs.walks.each_frame.Goals.{then-from-next, else-from-next}
use Rattle.desk_files.proofs.walks.each_frame.Goals as goal

pub returns-in_default-clause-visits : goal.returns-in_default-clause-visits
returns-in_default-clause-visits g c = visits_none _ _ c.next_start-next.ensures c.in_default.ensures

pub slice_bounds-from-items-end : goal.slice_bounds-from-items-end
slice_bounds-from-items-end g c = items_count c.in-Ok.ensures c.as_chunks.ensures.front

pub loop-from-init : goal.loop-from-init
loop-from-init g c = (λ h. h, visited_none _ _ _ _ _)

pub loop-from-preserved : goal.loop-from-preserved
loop-from-preserved g c =
    let m = c.in-Ok.ensures in
    let e = c.as_chunks.ensures.front in
    let v = c.loop-from.invariant in
    let l = c.loop-from-test.true in
    elim c.if-from-next.branch [
      | then-from-next w ↦ (
        λ h. mut_next _ _ _ _ _ _ w.visit.ensures (sym w.visit-is) (v.0 h),
        visited_more _ _ m e v.1 l w.visit.ensures w.visit-is w.if-from-next.true w.part.ensures.bytes w.part.ensures.offset,
      )
      | else-from-next w ↦ (λ h. subst (always_mut g.F.FnMut) (sym w.visit-is) (v.0 h), visited_same _ _ m e v.1 l w.visit-is w.if-from-next.false)
    ]

pub returns-clause-visits : goal.returns-clause-visits
returns-clause-visits g c = visits_all _ _ c.in-Ok.ensures c.as_chunks.ensures.front c.loop-from.invariant.1 c.next_start-next.ensures c.loop-from-test.false
