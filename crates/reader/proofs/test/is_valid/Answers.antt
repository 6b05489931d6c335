-- `reader::test::is_valid` meets its contract: a message is given where the checksum is right and the fields are read.
-- Assumes nothing.
use mathlib.Core.Path.{sym, ap, ◌∙◌}
use mathlib.Core.Bool.{Bool}
use Prim.Native.Nat.{◌-◌}
use lib.ListN.{drop}
use Rattle.util.proofs.Laws.Groups.{seven_take, seven_drop}
use Rattle.messages.specs.Layouts.{form}
use Rattle.messages.specs.Messages.{sum_answer}
use Rattle.messages.specs.Walk.{is_given}
use Rattle.reader.specs.Opening.{device_at, fields_in}
use Rattle.reader.proofs.Laws.Fields.{given_right, given_wrong}
use Rattle.reader.proofs.test.is_valid.Goals as goal

pub returns-else-o : goal.returns-else-o
returns-else-o c =
    let mid = c.args.mid.now in
    let o = c.args.o in
    let x = (form o.h).read (fields_in mid o.start o.end) in
    given_wrong (device_at mid) o.h x ∙ ap is_given (ap (λ (u : Bool). sum_answer (device_at mid) o.h u x) (sym c.if-o.false))

pub invariant_of-is_valid : goal.invariant_of-is_valid
invariant_of-is_valid c =
    let mid = c.args.mid.now in
    let o = c.args.o in
    seven_take (o.end - o.start) (drop o.start mid) (seven_drop o.start mid c.requires.0)

pub returns-then-o : goal.returns-then-o
returns-then-o c =
    let mid = c.args.mid.now in
    let o = c.args.o in
    let x = (form o.h).read (fields_in mid o.start o.end) in
    c.is_valid.ensures ∙ given_right (device_at mid) o.h x ∙ ap is_given (ap (λ (u : Bool). sum_answer (device_at mid) o.h u x) (sym c.if-o.true))
