-- `numbers_read::put_header` meets its contract: the message that its fields are, which takes no places.
-- Assumes nothing.
use mathlib.Core.Path.{◌≡◌, refl, sym, ap, subst, ◌∙◌}
use native.Mathlib.Omega.{arith}
use Rattle.std.specs.Prelude.{Some}
use Rattle.messages.specs.declared.head.Head.{Head}
use Rattle.messages.specs.Fields.{device_of}
use Rattle.read_places.specs.Found.{Reads}
use Rattle.reader.proofs.Laws.Fields.{lent_fields, long_enough, fields_seven, begins_within}
use Rattle.numbers_read.proofs.Plain.{plain_met, plain_put}
use Rattle.numbers_read.proofs.put_header.Goals as goal

pub overflow_add-start : goal.overflow_add-start
overflow_add-start c = omega (arith, long_enough c.args.frame.now c.args.o c.requires.2, c.requires.2.2, c.well_formed.0)

pub overflow_add-e : goal.overflow_add-e
overflow_add-e c = omega (arith, long_enough c.args.frame.now c.args.o c.requires.2, c.well_formed.0)

pub slice_bounds-bytes-end : goal.slice_bounds-bytes-end
slice_bounds-bytes-end c = omega (arith, long_enough c.args.frame.now c.args.o c.requires.2)

pub invariant_of-f : goal.invariant_of-f
invariant_of-f c = fields_seven c.args.frame.now c.args.o c.requires.2

pub text_start-requires : goal.text_start-requires
text_start-requires c =
    let a = c.args in
    let w = subst (λ (h : Head). Reads h (Some c.in-Some.found) (lent_fields a.frame.now a.o c.requires.2)) (sym c.requires.1) c.in-Some.ensures in
    begins_within a.frame.now a.o c.requires.2 w

pub returns-then-o : goal.returns-then-o
returns-then-o c =
    let a = c.args in
    let w = subst (λ (h : Head). Reads h (Some c.in-Some.found) (lent_fields a.frame.now a.o c.requires.2)) (sym c.requires.1) c.in-Some.ensures in
    plain_put _ a.frame.now a.answer.now _ c.put_sample.result _ c.put_sample.ensures refl
    (plain_met a.frame.now a.o c.requires.2 w c.if-found-ne0.false c.if-o.true c.from.result c.text_start.result
    (c.from.ensures ∙ ap device_of c.at.ensures) c.text_start.ensures)
