-- `reader::opening::summed_opening` meets its contract: the fields, and the checksum after them.
-- Assumes nothing.
use mathlib.Core.Path.{sym, ap₂}
use Prim.Native.Nat.{◌-◌}
use native.Mathlib.Omega.{arith}
use lib.Dec.{eqb}
use lib.ListN.{length}
use lib.Seq.{length-take-le}
use Rattle.reader.specs.Opening.{device_at}
use Rattle.reader.proofs.Laws.Sums.{sum_is, no_sum}
use Rattle.reader.proofs.opening.summed_opening.Goals as goal

pub returns-then-mid-n : goal.returns-then-mid-n
returns-then-mid-n c = record { says = no_sum (device_at c.args.mid.now) c.args.h c.args.n c.args.mid.now c.if-mid-n.true; part = tt }

pub slice_bounds-checksum-end : goal.slice_bounds-checksum-end
slice_bounds-checksum-end c = sym (length-take-le _ c.args.mid.now (omega arith))

pub returns : goal.returns
returns c = let mid = c.args.mid.now in
    let l = c.if-mid-n.false in
    record {
      says = sum_is mid (device_at mid) c.args.h c.args.n (length mid - 1) (omega (arith, l)) (omega (arith, l)) c.requires.3 _
          (ap₂ eqb c.checksum.ensures c.at.ensures);
      part = (c.requires.0, c.requires.2, omega (arith, l), omega (arith, l));
    }
