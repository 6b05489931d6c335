-- `numbers_read::put_handshake` meets its contract: six bytes by place.
-- Assumes nothing.
use mathlib.Core.Path.{sym, subst}
use mathlib.Core.List.{List}
use Prim.Native.Nat.{ℕ}
use Rattle.messages.specs.Messages.{read_of}
use Rattle.numbers_read.specs.Plain.{ReadPlain}
use Rattle.numbers_read.proofs.Handshake.{six_is}
use Rattle.numbers_read.proofs.put_handshake.Goals as goal

pub returns : goal.returns
returns c = let l = c.args.frame.now in
    λ k. subst (λ (x : List ℕ). ReadPlain c.put_packet.result (read_of k x) x c.args.answer.now c.put_packet.new.answer)
    (sym (six_is l c.if-frame-ne6.false c.if-frame.false c.if-frame-ne126.false c.if-frame-2.false)) (c.put_packet.ensures k)
