-- `reader::is_frame_shaped` meets its contract: a frame is what reading gives a message for.
-- Assumes nothing.
use mathlib.Core.Path.{◌∙◌}
use Prim.Native.Nat.{◌-◌}
use native.Mathlib.Omega.{arith}
use lib.ListN.{length, drop, length-take, length-drop}
use lib.Seq.{get_or-take, get_or-drop}
use Rattle.messages.proofs.Exact.{inside_shaped}
use Rattle.reader.proofs.Laws.Shape.{read_of_frame, frame_is}
use Rattle.reader.proofs.is_frame_shaped.Goals as goal

pub overflow_sub-e : goal.overflow_sub-e
overflow_sub-e c = omega (arith, (inside_shaped c.args.stretch.now _ c.requires.0).2)

pub slice_bounds-is_body-count : goal.slice_bounds-is_body-count
slice_bounds-is_body-count c = omega (arith, (inside_shaped c.args.stretch.now _ c.requires.0).2)

pub slice_bounds-is_body-start : goal.slice_bounds-is_body-start
slice_bounds-is_body-start c = omega (arith, (inside_shaped c.args.stretch.now _ c.requires.0).2)

pub is_body-requires : goal.is_body-requires
is_body-requires c = let l = c.args.stretch.now in
    let w = inside_shaped l _ c.requires.0 in (
      w.1,
      omega (arith, length-take (length l - 1 - 1) (drop 1 l), length-drop 1 l, w.2),
      get_or-take (length l - 1 - 1) (drop 1 l) 0 0 (omega (arith, w.2)) ∙ get_or-drop 1 l 0 0 ∙ c.requires.1,
    )

pub returns : goal.returns
returns c = c.is_body.ensures ∙ frame_is c.args.kind c.args.stretch.now (read_of_frame c.args.kind c.args.stretch.now c.requires.0)
