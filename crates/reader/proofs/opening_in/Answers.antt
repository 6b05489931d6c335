-- `reader::opening_in` meets its contract: SHAPE, or what stands between F0 and F7.
-- Assumes nothing.
use mathlib.Core.Path.{sym, ◌∙◌}
use Rattle.util.proofs.Laws.Groups.{seven_true}
use Rattle.reader.specs.Opening.{inner}
use Rattle.reader.proofs.Laws.Shape.{short_none, first_none, last_none, high_none, inside_is, read_of_frame}
use Rattle.reader.proofs.opening_in.Goals as goal

pub returns-then-frame-lt6 : goal.returns-then-frame-lt6
returns-then-frame-lt6 c = record { says = read_of_frame c.args.kind c.args.frame.now (short_none c.args.frame.now c.if-frame-lt6.true); part = tt }

pub returns-then-frame : goal.returns-then-frame
returns-then-frame c = record { says = read_of_frame c.args.kind c.args.frame.now (first_none c.args.frame.now c.if-frame.true); part = tt }

pub returns-then-frame-e : goal.returns-then-frame-e
returns-then-frame-e c = record { says = read_of_frame c.args.kind c.args.frame.now (last_none c.args.frame.now c.if-frame-e.true); part = tt }

pub opening_shaped-requires : goal.opening_shaped-requires
opening_shaped-requires c = let l = c.args.frame.now in
    inside_is l c.if-frame-lt6.false c.if-frame.false c.if-frame-e.false
    (seven_true (inner l) (sym c.is_seven.ensures ∙ c.if-is_seven.true))

pub returns-else-is_seven : goal.returns-else-is_seven
returns-else-is_seven c = record { says = read_of_frame c.args.kind c.args.frame.now (high_none c.args.frame.now (sym c.is_seven.ensures ∙ c.if-is_seven.false)); part = tt }
