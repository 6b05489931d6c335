-- `walk::frame_at` meets its contract: the stretch is too short, or it has the shape of a frame. Assumes nothing.
use mathlib.Core.Path.{sym, ◌∙◌}
use Prim.Native.Nat.{◌+◌, ◌-◌}
use native.Mathlib.Omega.{arith}
use lib.ListN.{drop}
use lib.Seq.{get_or-take, get_or-drop}
use Rattle.walk.proofs.Laws.Shape.{short_not, shaped}
use Rattle.walk.proofs.frame_at.Goals as goal

pub overflow_sub-e : goal.overflow_sub-e
overflow_sub-e c = omega (arith, c.requires.ends)

pub returns-then-e-start-lt6 : goal.returns-then-e-start-lt6
returns-then-e-start-lt6 c =
    sym (short_not c.args.kind c.args.s.now c.args.start c.args.e (omega arith) c.requires.ends c.requires.fits (omega arith))

pub is_frame_shaped-requires : goal.is_frame_shaped-requires
is_frame_shaped-requires c =
    let s = c.args.s.now in
    let i = c.args.start in
    let e = c.args.e in (
      shaped c.args.kind s i e (omega arith) c.requires.ends c.requires.first c.requires.fits (omega arith) c.requires.last,
      get_or-take (e + 1 - i) (drop i s) 1 0 (omega arith) ∙ get_or-drop i s 1 0 ∙ c.requires.second,
    )
