-- `numbers_write::write_header` meets its contract: the numbers are no header, or the header is written.
-- Assumes nothing.
use mathlib.Core.Path.{◌≡◌, sym, ◌∙◌}
use borrow.Author.Rules.{rules}
use Rattle.std.specs.Prelude.{Ok, Err}
use Rattle.numbers_write.specs.declared.WriteError.TheVariants.{Refused}
use Rattle.numbers_write.proofs.Laws.{made_by, made_not, wrote, unwritten}
use Rattle.numbers_write.proofs.write_header.Goals as goal

pub returns-then-not-is_header : goal.returns-then-not-is_header
returns-then-not-is_header c =
    let v = c.args.numbers.now in
    let t = unwritten v c.args.text.now c.args.entries.now c.args.out.now c.args.place (made_not v (sym c.is_header.ensures ∙ c.if-not-is_header.true)) in
    record { answer = t.0; output = t.1 }

pub returns-in_err-write_header : goal.returns-in_err-write_header
returns-in_err-write_header c =
    let v = c.args.numbers.now in
    let w = rw (c.device_at.ensures, c.u16_at.ensures, c.u8_at.ensures, c.u32_at.ensures, c.u32_at-2.ensures, c.u32_at-3.ensures, c.u32_at-4.ensures, c.loop_type_at.ensures) at c.in_err-write_header.ensures in
    let t = wrote v c.args.text.now c.args.entries.now c.args.out.now c.args.place _ _ (made_by v 0x0100 c.requires (sym c.is_header.ensures ∙ c.if-not-is_header.false)) (Err c.in_err-write_header.field-0.0) _ w.0 w.1 in
    let q : c.from_residual.result ≡ Err (Refused c.in_err-write_header.field-0.0) = search rules in
    record { answer = q ∙ t.0; output = t.1 }

pub returns : goal.returns
returns c =
    let v = c.args.numbers.now in
    let w = rw (c.device_at.ensures, c.u16_at.ensures, c.u8_at.ensures, c.u32_at.ensures, c.u32_at-2.ensures, c.u32_at-3.ensures, c.u32_at-4.ensures, c.loop_type_at.ensures) at c.in_ok-write_header.ensures in
    let t = wrote v c.args.text.now c.args.entries.now c.args.out.now c.args.place _ _ (made_by v 0x0100 c.requires (sym c.is_header.ensures ∙ c.if-not-is_header.false)) (Ok c.in_ok-write_header.field-0) _ w.0 w.1 in
    record { answer = t.0; output = t.1 }
