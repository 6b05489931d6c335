-- `write_lists::packing::top_bits` meets its contract.
-- Assumes nothing.
use Rattle.std.proofs.Common.{◌/◌, ◌≤◌, arith, add-one}
use native.Mathlib.Nat.{two-pow-succ}
use Rattle.write_lists.proofs.Laws.Packs.{tops_more, power_small}
use Rattle.write_lists.proofs.packing.top_bits.Goals as goal

pub loop-i-preserved : goal.loop-i-preserved
loop-i-preserved c =
    let l = c.loop-i in
    let g = c.args.group.now in
    let p = power_small l.i (omega arith) in
    let q = two-pow-succ l.i in
    let m = tops_more l.i g in
    let b : c.at.result / 128 ≤ 1 = omega arith in
    rw add-one (omega (arith, m, l.invariant.0), omega (arith, q, l.invariant.1))
