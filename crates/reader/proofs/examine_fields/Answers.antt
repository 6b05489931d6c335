-- `reader::examine_fields` meets its contract: what the fields say, with where their text begins in the frame.
-- Assumes nothing.
use mathlib.Core.Path.{ap, ◌∙◌}
use native.Mathlib.Omega.{arith}
use Rattle.messages.specs.Fields.{device_of}
use Rattle.reader.proofs.Laws.Met.{told_refused}
use Rattle.reader.proofs.Laws.Fields.{long_enough, fields_seven, begins_within, told_right, wrong_says, none_says}
use Rattle.reader.proofs.examine_fields.Goals as goal

pub overflow_add-start : goal.overflow_add-start
overflow_add-start c = omega (arith, long_enough c.args.frame.now c.args.o c.requires, c.requires.2, c.well_formed.0)

pub overflow_add-e : goal.overflow_add-e
overflow_add-e c = omega (arith, long_enough c.args.frame.now c.args.o c.requires, c.well_formed.0)

pub slice_bounds-bytes-end : goal.slice_bounds-bytes-end
slice_bounds-bytes-end c = omega (arith, long_enough c.args.frame.now c.args.o c.requires)

pub invariant_of-f : goal.invariant_of-f
invariant_of-f c = fields_seven c.args.frame.now c.args.o c.requires

pub returns-in-None : goal.returns-in-None
returns-in-None c =
    let l = c.args.frame.now in
    told_refused _ _ l (none_says l c.args.o c.requires c.in-None.ensures)

pub returns-else-o : goal.returns-else-o
returns-else-o c =
    let l = c.args.frame.now in
    told_refused _ _ l (wrong_says l c.args.o c.requires c.in-Some.ensures c.if-o.false)

pub text_start-requires : goal.text_start-requires
text_start-requires c = begins_within c.args.frame.now c.args.o c.requires c.in-Some.ensures

pub returns-then-o : goal.returns-then-o
returns-then-o c =
    told_right c.args.frame.now c.args.o c.requires c.in-Some.ensures _ _ (c.from.ensures ∙ ap device_of c.at.ensures) c.if-o.true c.text_start.ensures
