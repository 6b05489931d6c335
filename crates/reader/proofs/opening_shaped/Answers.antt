-- `reader::opening_shaped` meets its contract: what stands between F0 and F7.
-- Assumes nothing.
use Prim.Native.Nat.{◌-◌}
use native.Mathlib.Omega.{arith}
use lib.ListN.{length, drop, length-take, length-drop}
use Rattle.messages.proofs.Exact.{inside_shaped}
use Rattle.reader.proofs.Laws.Opening.{opens_with}
use Rattle.reader.proofs.Laws.Shape.{read_of_frame}
use Rattle.reader.proofs.opening_shaped.Goals as goal

pub overflow_sub-e : goal.overflow_sub-e
overflow_sub-e c = omega (arith, (inside_shaped c.args.frame.now _ c.requires).2)

pub slice_bounds-opening_of-count : goal.slice_bounds-opening_of-count
slice_bounds-opening_of-count c = omega (arith, (inside_shaped c.args.frame.now _ c.requires).2)

pub slice_bounds-opening_of-start : goal.slice_bounds-opening_of-start
slice_bounds-opening_of-start c = omega (arith, (inside_shaped c.args.frame.now _ c.requires).2)

pub opening_of-requires : goal.opening_of-requires
opening_of-requires c = let l = c.args.frame.now in
    let w = inside_shaped l _ c.requires in
    (w.1, omega (arith, length-take (length l - 1 - 1) (drop 1 l), length-drop 1 l, w.2))

pub returns : goal.returns
returns c = opens_with c.opening_of.ensures (read_of_frame c.args.kind c.args.frame.now c.requires)
