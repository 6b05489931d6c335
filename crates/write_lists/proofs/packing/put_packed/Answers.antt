-- `write_lists::packing::put_packed` meets its contract.
-- Assumes nothing.
use Rattle.std.proofs.Common.{◌≡◌, ℕ, List, ◌+◌, ◌*◌, ◌-◌, ◌≤◌, length, length-append, arith, sym, ap, ap₂, ◌∙◌}
use Rattle.std.specs.Iterator.Adapters.{enumerate_source, enumerate_count}
use Rattle.std.specs.Slice.Iter.{chunks_rest}
use borrow.Rule.Slice.PartMut.{put_mid}
use mathlib.Core.Logic.{inl}
use Rattle.util.specs.Packing.{pack}
use Rattle.util.specs.Splice.{splice}
use Rattle.util.proofs.Laws.Splice.{tail_room}
use Rattle.write_lists.proofs.Laws.Packs.{group_room, group_step, length_pack}
use Rattle.write_lists.proofs.packing.put_packed.Goals as goal
use Rattle.write_lists.proofs.packing.put_packed.Goals.{In-Some}

-- the group has room
room : (c : In-Some) → 8 * c.in-Some.i + (1 + length c.in-Some.group.now) ≤ length c.loop-i.out
room c =
    let st = c.in-Some.ensures.steps in
    let l = c.loop-i in
    let iv = l.invariant in
    let p = length_pack 0 c.args.s.now (omega arith) in
    group_room (length c.args.s.now) c.in-Some.i (length (chunks_rest (enumerate_source l.i-iterator))) (length c.in-Some.group.now) (length l.out)
    (omega (arith, st.1, iv.4)) st.0.1.2 (omega (arith, st.0.1.1, iv.2)) (omega (arith, p, l.auto.out, c.requires.1))

pub slice_bounds-put_group-count : goal.slice_bounds-put_group-count
slice_bounds-put_group-count c = omega (arith, room (goal.at.slice_bounds-put_group-count c).In-Some)

pub slice_bounds-put_group-start : goal.slice_bounds-put_group-start
slice_bounds-put_group-start c = omega (arith, room (goal.at.slice_bounds-put_group-start c).In-Some)

pub put_group-requires : goal.put_group-requires
put_group-requires c =
    let st = c.in-Some.ensures.steps in
    let l = c.loop-i in
    (omega (arith, st), omega (arith, st, l.invariant), tail_room l.out (8 * c.in-Some.i) _ (room (goal.at.put_group-requires c).In-Some))

pub loop-i-preserved : goal.loop-i-preserved
loop-i-preserved c =
    let st = c.in-Some.ensures.steps in
    let l = c.loop-i in
    let g = c.in-Some.group.now in
    let iv = l.invariant in
    let rest = chunks_rest (enumerate_source c.next.new.self) in
    let n : length (chunks_rest (enumerate_source l.i-iterator)) ≡ length g + length rest = ap length st.0.1.0 ∙ length-append g rest in
    let m : enumerate_count c.next.new.self ≡ c.in-Some.i + 1 = omega (arith, st.1, st.2) in
    let out = put_mid (8 * c.in-Some.i) (length l.out - 8 * c.in-Some.i) l.out c.put_group.new.out in
    let w = ap₂ (λ (k : ℕ) (r : List ℕ). splice l.out (8 * k) (pack 0 r)) st.1 (sym st.0.1.0) ∙ iv.5 in
    let x =
    group_step g rest l.out c.put_group.new.out _ c.in-Some.i (omega (arith, st)) (omega (arith, st.0.1.1, iv.2, n))
    (room (goal.at.loop-i-preserved c).In-Some) c.put_group.ensures w in (
      (omega (arith, st.0.0, iv.2), tt, inl (omega (arith, st, iv.3, n, iv.4, c.requires.0))),
      tt,
      st.0.0 ∙ iv.2,
      omega (arith, st, iv),
      omega (arith, st, iv.2, iv.4, n),
      ap (λ (k : ℕ). splice out (8 * k) (pack 0 rest)) m ∙ x,
    )
