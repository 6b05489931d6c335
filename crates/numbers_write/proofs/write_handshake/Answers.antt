-- `numbers_write::write_handshake` meets its contract: the numbers are no message, or the handshake message is written.
-- Assumes nothing.
use mathlib.Core.Path.{◌≡◌, refl, sym, ap, ◌∙◌}
use mathlib.Core.List.{List}
use Prim.Native.Nat.{ℕ}
use lib.ListN.{length}
use borrow.Author.Rules.{rules}
use Rattle.std.specs.Prelude.{Ok, Err}
use Rattle.numbers_write.specs.declared.WriteError.TheVariants.{Refused}
use Rattle.messages.specs.Messages.{Answer}
use Rattle.writer.specs.Write.{written_at, output_after}
use Rattle.writer.proofs.Laws.Answers.{bytes_all}
use Rattle.writer.proofs.Laws.Handshakes.{handshake_written}
use Rattle.numbers_write.specs.Whole.{device_in, message_in}
use Rattle.numbers_write.proofs.Laws.{made_by, made_not, wrote, unwritten}
use Rattle.numbers_write.proofs.write_handshake.Goals as goal

pub returns-then-not-is_one_byte : goal.returns-then-not-is_one_byte
returns-then-not-is_one_byte c =
    let v = c.args.numbers.now in
    let t = unwritten v c.args.text.now c.args.entries.now c.args.out.now c.args.place (made_not v (sym c.is_one_byte.ensures ∙ c.if-not-is_one_byte.true)) in
    record { answer = t.0; output = t.1 }

pub returns-in_err-write_handshake : goal.returns-in_err-write_handshake
returns-in_err-write_handshake c =
    let v = c.args.numbers.now in
    let h = handshake_written (device_in v) (message_in v) c.args.text.now c.args.entries.now _ _ c.requires.1 (bytes_all c.args.text.now (λ i. search rules)) in
    let w = rw (c.device_at.ensures, c.u8_at.ensures) at c.in_err-write_handshake.ensures in
    let t = wrote v c.args.text.now c.args.entries.now c.args.out.now c.args.place _ _ (made_by v _ refl (sym c.is_one_byte.ensures ∙ c.if-not-is_one_byte.false)) (Err c.in_err-write_handshake.field-0.0)
    _ (w.0 ∙ ap (λ (x : Answer (List ℕ)). written_at x (length c.args.out.now) c.args.place) (sym h)) (w.1 ∙ ap (λ (x : Answer (List ℕ)). output_after x c.args.out.now c.args.place) (sym h)) in
    let q : c.from_residual.result ≡ Err (Refused c.in_err-write_handshake.field-0.0) = search rules in
    record { answer = q ∙ t.0; output = t.1 }

pub returns : goal.returns
returns c =
    let v = c.args.numbers.now in
    let h = handshake_written (device_in v) (message_in v) c.args.text.now c.args.entries.now _ _ c.requires.1 (bytes_all c.args.text.now (λ i. search rules)) in
    let w = rw (c.device_at.ensures, c.u8_at.ensures) at c.in_ok-write_handshake.ensures in
    let t = wrote v c.args.text.now c.args.entries.now c.args.out.now c.args.place _ _ (made_by v _ refl (sym c.is_one_byte.ensures ∙ c.if-not-is_one_byte.false)) (Ok c.in_ok-write_handshake.field-0)
    _ (w.0 ∙ ap (λ (x : Answer (List ℕ)). written_at x (length c.args.out.now) c.args.place) (sym h)) (w.1 ∙ ap (λ (x : Answer (List ℕ)). output_after x c.args.out.now c.args.place) (sym h)) in
    record { answer = t.0; output = t.1 }
