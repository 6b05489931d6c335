-- `read_tuning::channels_at` meets its contract.
-- Assumes nothing.
use Prim.Native.Nat.{◌<◌}
use native.Mathlib.Omega.{arith}
use Rattle.read_places.proofs.Laws.Numbers.{value_get, seven_get}
use Rattle.read_tuning.proofs.channels_at.Goals as goal

pub channels_of-requires : goal.channels_of-requires
channels_of-requires c =
    let f = c.f.inside.bytes.now in
    let x : c.u7_at-first.result < 128 = rw (c.u7_at-first.ensures, value_get f 0) (seven_get f 0 c.f.invariant) in
    let y : c.u7_at-second.result < 128 = rw (c.u7_at-second.ensures, value_get f 1) (seven_get f 1 c.f.invariant) in
    let z : c.u7_at-third.result < 128 = rw (c.u7_at-third.ensures, value_get f 2) (seven_get f 2 c.f.invariant) in
    (omega arith, omega arith, omega arith)

pub returns : goal.returns
returns c = rw (c.channels_of.ensures, c.u7_at-third.ensures, c.u7_at-second.ensures, c.u7_at-first.ensures, c.f.view_is)
