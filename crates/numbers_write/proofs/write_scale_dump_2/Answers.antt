-- `numbers_write::write_scale_dump_2` meets its contract: the numbers are no scale dump, or the scale dump is written.
-- Assumes nothing.
use mathlib.Core.Path.{◌≡◌, sym, ◌∙◌}
use borrow.Author.Rules.{rules}
use Rattle.std.specs.Prelude.{Ok, Err}
use Rattle.numbers_write.specs.declared.WriteError.TheVariants.{Refused}
use Rattle.numbers_write.proofs.Laws.{made_by, made_not, wrote, unwritten}
use Rattle.numbers_write.proofs.write_scale_dump_2.Goals as goal

pub returns-then-not-is_scale_dump_2 : goal.returns-then-not-is_scale_dump_2
returns-then-not-is_scale_dump_2 c =
    let v = c.args.numbers.now in
    let t = unwritten v c.args.text.now c.args.entries.now c.args.out.now c.args.place (made_not v (sym c.is_scale_dump_2.ensures ∙ c.if-not-is_scale_dump_2.true)) in
    record { answer = t.0; output = t.1 }

pub returns-in_err-write_scale_dump_2 : goal.returns-in_err-write_scale_dump_2
returns-in_err-write_scale_dump_2 c =
    let v = c.args.numbers.now in
    let w = rw (c.device_at.ensures, c.u8_at.ensures, c.u8_at-2.ensures, c.scale_2-s.ensures) at c.in_err-write_scale_dump_2.ensures in
    let t = wrote v c.args.text.now c.args.entries.now c.args.out.now c.args.place _ _ (made_by v 0x0806 c.requires (sym c.is_scale_dump_2.ensures ∙ c.if-not-is_scale_dump_2.false)) (Err c.in_err-write_scale_dump_2.field-0.0) _ w.0 w.1 in
    let q : c.from_residual.result ≡ Err (Refused c.in_err-write_scale_dump_2.field-0.0) = search rules in
    record { answer = q ∙ t.0; output = t.1 }

pub returns : goal.returns
returns c =
    let v = c.args.numbers.now in
    let w = rw (c.device_at.ensures, c.u8_at.ensures, c.u8_at-2.ensures, c.scale_2-s.ensures) at c.in_ok-write_scale_dump_2.ensures in
    let t = wrote v c.args.text.now c.args.entries.now c.args.out.now c.args.place _ _ (made_by v 0x0806 c.requires (sym c.is_scale_dump_2.ensures ∙ c.if-not-is_scale_dump_2.false)) (Ok c.in_ok-write_scale_dump_2.field-0) _ w.0 w.1 in
    record { answer = t.0; output = t.1 }
