-- `util::groups::value_at` meets its contract: a byte more in front is a group more.
-- Assumes nothing.
use Rattle.std.proofs.Common.{arith, add-one, ◌≡◌, ◌+◌, ◌-◌, ℕ, length, take, drop}
use Rattle.util.proofs.Laws.Places.{value_step, most_turn, most_rises}
use Rattle.util.proofs.groups.value_at.Goals as goal

pub overflow_mul-v : goal.overflow_mul-v
overflow_mul-v g c =
    let m = most_rises (g.row.N - c.loop-k.k) 7 (omega arith) in record { fits = omega (arith, c.loop-k.invariant.most) }

pub overflow_add-v : goal.overflow_add-v
overflow_add-v g c =
    let m = most_rises (g.row.N - c.loop-k.k) 7 (omega arith) in record { fits = omega (arith, c.loop-k.invariant.most) }

pub loop-k-preserved : goal.loop-k-preserved
loop-k-preserved g c =
    let l = c.loop-k in
    let n : ℕ = g.row.N - l.k in
    let e : g.row.N - (l.k - 1) ≡ n + 1 = omega arith in
    let r = take (length c.args.s.now - c.min.result) (drop c.min.result c.args.s.now) in
    let s = value_step n (l.k - 1) r in
    let q : l.k - 1 + 1 ≡ l.k = omega arith in record {
      is = rw (e, add-one, s, q) (omega (arith, l.invariant.is, c.at.ensures));
      most = rw e (most_turn n l.v c.at.result l.invariant.most (omega arith));
    }
