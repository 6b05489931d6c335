-- `read_file_dump::put_data` meets its contract: each group of eight bytes puts its seven data bytes, and what is left puts the rest.
-- Assumes nothing.
use Rattle.std.proofs.Common.{◌≡◌, ◌≤◌, ◌+◌, ◌*◌, ◌/◌, ◌∙◌, ◌++◌, length, arith, sym, ap, List, ℕ, [], get_or}
use lib.ListN.{drop, length-append}
use Rattle.util.specs.Groups.{Seven}
use Rattle.util.specs.Splice.{splice}
use Rattle.util.proofs.Laws.Splice.{item_turn, tail_drop, tail_room}
use Rattle.util.proofs.Laws.Groups.{seven_drop}
use Rattle.read_places.specs.Places.{data_from}
use Rattle.read_file_dump.proofs.Laws.Packed.{group_length, group_turn}
use Rattle.read_file_dump.proofs.put_data.Goals as goal
use Rattle.read_file_dump.proofs.put_data.Goals.{In-loop-n}

-- the packed bytes, and this group
abbrev packed : In-loop-n → List ℕ
packed c = drop c.args.at c.args.f.now

abbrev group : In-loop-n → List ℕ
group c = get_or c.as_chunks.result.0.now c.loop-n.n []

turn : (c : In-loop-n)
    → let n = c.loop-n.n in
    Seven (group c) × (length (group c) ≡ 8) × (data_from 0 0 (drop (8 * n) (packed c)) ≡ data_from 0 0 (group c) ++ data_from 0 0 (drop (8 * (n + 1)) (packed c)))
turn c =
    let r = rw (tail_drop c.args.f.now c.args.at) at c.as_chunks.ensures in
    rw r.front (group_turn _ c.loop-n.n (packed c) (seven_drop c.args.at _ c.requires.0) (omega (arith, r.front_len, c.loop-n-test.true)) (omega arith))

room : (c : In-loop-n) → 7 * (c.loop-n.n + 1) + length (data_from 0 0 (drop (8 * (c.loop-n.n + 1)) (packed c))) ≤ length c.loop-n.out
room c =
    let t = turn c in
    omega (arith, ap length t.2 ∙ length-append (data_from 0 0 (group c)) _, group_length (group c) t.1, c.loop-n.invariant.0)

pub put_group-requires : goal.put_group-requires
put_group-requires c =
    let w = (goal.at.put_group-requires c).In-loop-n in
    ((turn w).0, (turn w).1, tail_room c.loop-n.out (7 * c.loop-n.n) 7 (omega (arith, room w)))

pub loop-n-preserved : goal.loop-n-preserved
loop-n-preserved c =
    let w = (goal.at.loop-n-preserved c).In-loop-n in
    let l = c.loop-n in
    let o : 7 * (l.n + 1) ≡ 7 * l.n + 7 = omega arith in
    let t =
    item_turn l.out c.put_group.new.out (data_from 0 0 (group w)) (data_from 0 0 (drop (8 * (l.n + 1)) (packed w))) _ (7 * l.n) 7 (group_length (group w) (turn w).1)
    (omega (arith, room w)) c.put_group.ensures (ap (splice l.out (7 * l.n)) (sym (turn w).2) ∙ l.invariant.1) in
    (omega (arith, t.0, room w), rw o t.1)

pub put_rest-requires : goal.put_rest-requires
put_rest-requires c =
    let l = c.loop-n in
    let r = rw (tail_drop c.args.f.now c.args.at) at c.as_chunks.ensures in
    let n : length c.as_chunks.result.0.now ≡ l.n = omega arith in
    let e : length (drop c.args.at c.args.f.now) / 8 * 8 ≡ 8 * l.n = omega (arith, r.front_len, n) in
    rw (n, r.back, e) (seven_drop (8 * l.n) _ (seven_drop c.args.at _ c.requires.0), tail_room l.out (7 * l.n) _ l.invariant.0)
