-- `util::groups::put_groups` meets its contract: a store more is a group more.
-- Assumes nothing.
use Rattle.std.proofs.Common.{arith, ◌≡◌, ◌∙◌, ◌-◌, ℕ, ap, sym, take, min, append-nil, length-take-le}
use Rattle.std.proofs.Math.Seq.{take_all}
use Rattle.util.specs.Groups.{groups, held}
use Rattle.util.proofs.Laws.Groups.{groups_length, shift_is}
use Rattle.util.proofs.Laws.Splice.{groups_turn}
use Rattle.util.proofs.groups.put_groups.Goals as goal

pub loop-b-preserved : goal.loop-b-preserved
loop-b-preserved g c =
    let l = c.loop-b in
    let n = length-take-le g.row.N c.args.out.now c.requires.room in
    groups_turn l.b-items g.row.N l.b-index l.rest (omega arith) (omega arith) ∙ l.invariant

pub returns : goal.returns
returns g c =
    let l = c.loop-b in
    let n = length-take-le g.row.N c.args.out.now c.requires.room in
    let e : c.hold-rest.result ≡ held g.row.N c.args.v = c.hold-rest.ensures ∙ ap (λ (x : ℕ). min c.args.v (x - 1)) (shift_is g.row.N c.requires.few) in
    let z : g.row.N - l.b-index ≡ 0 = omega arith in
    let t : take l.b-index l.b-items ≡ l.b-items = take_all l.b-index l.b-items (omega arith) in
    let i : l.b-items ≡ groups g.row.N (held g.row.N c.args.v) =
    sym (append-nil l.b-items) ∙ (rw (t, z, e) at l.invariant) in
    rw (i, groups_length)
