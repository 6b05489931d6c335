-- `reader::test::is_body` meets its contract: the tests of the opening, or two bytes that say enough.
-- Assumes nothing.
use mathlib.Core.Path.{sym, ap, ◌∙◌}
use mathlib.Core.List.{List}
use Prim.Native.Nat.{ℕ, ◌-◌}
use lib.ListN.{length, drop}
use Rattle.util.proofs.Laws.Groups.{seven_take, seven_drop}
use Rattle.util.proofs.Laws.Splice.{tail_drop}
use Rattle.messages.specs.declared.head.Head.TheVariants as head
use Rattle.messages.specs.Layouts.{form}
use Rattle.read_places.specs.Found.{is_read}
use Rattle.reader.proofs.Laws.Brief.{brief_body, header_body}
use Rattle.reader.proofs.test.is_body.Goals as goal

pub returns-then-is_brief : goal.returns-then-is_brief
returns-then-is_brief c = brief_body c.args.kind c.args.mid.now c.requires.0 c.if-mid-eq4.true c.requires.2 (sym c.is_brief.ensures ∙ c.if-is_brief.true)

pub invariant_of-is_header : goal.invariant_of-is_header
invariant_of-is_header c = seven_take (length c.args.mid.now - 3) (drop 3 c.args.mid.now) (seven_drop 3 c.args.mid.now c.requires.0)

pub returns-then-mid-eq1 : goal.returns-then-mid-eq1
returns-then-mid-eq1 c = let mid = c.args.mid.now in
    c.is_header.ensures ∙ ap (λ (l : List ℕ). is_read ((form head.SampleDumpHeader).read l)) (tail_drop mid 3)
    ∙ header_body c.args.kind mid c.requires.0 c.requires.1 c.requires.2 c.if-mid-eq1.true
