-- `numbers_write::write_packet` meets its contract: the numbers are no packet, or the packet is written.
-- Assumes nothing.
use mathlib.Core.Path.{◌≡◌, sym, ◌∙◌}
use borrow.Author.Rules.{rules}
use Rattle.std.specs.Prelude.{Ok, Err}
use Rattle.numbers_write.specs.declared.WriteError.TheVariants.{Refused}
use Rattle.numbers_write.proofs.Laws.{made_by, made_not, wrote, unwritten}
use Rattle.numbers_write.proofs.write_packet.Goals as goal

pub is_one_byte-requires : goal.is_one_byte-requires
is_one_byte-requires c =
    rw c.requires

pub returns-then-not-is_one_byte : goal.returns-then-not-is_one_byte
returns-then-not-is_one_byte c =
    let v = c.args.numbers.now in
    let t = unwritten v c.args.text.now c.args.entries.now c.args.out.now c.args.place (made_not v (sym c.is_one_byte.ensures ∙ c.if-not-is_one_byte.true)) in
    record { answer = t.0; output = t.1 }

pub returns-in_err-write_packet : goal.returns-in_err-write_packet
returns-in_err-write_packet c =
    let v = c.args.numbers.now in
    let w = rw (c.device_at.ensures, c.u8_at.ensures) at c.in_err-write_packet.ensures in
    let t = wrote v c.args.text.now c.args.entries.now c.args.out.now c.args.place _ _ (made_by v 0x0200 c.requires (sym c.is_one_byte.ensures ∙ c.if-not-is_one_byte.false)) (Err c.in_err-write_packet.field-0.0) _ w.0 w.1 in
    let q : c.from_residual.result ≡ Err (Refused c.in_err-write_packet.field-0.0) = search rules in
    record { answer = q ∙ t.0; output = t.1 }

pub returns : goal.returns
returns c =
    let v = c.args.numbers.now in
    let w = rw (c.device_at.ensures, c.u8_at.ensures) at c.in_ok-write_packet.ensures in
    let t = wrote v c.args.text.now c.args.entries.now c.args.out.now c.args.place _ _ (made_by v 0x0200 c.requires (sym c.is_one_byte.ensures ∙ c.if-not-is_one_byte.false)) (Ok c.in_ok-write_packet.field-0) _ w.0 w.1 in
    record { answer = t.0; output = t.1 }
