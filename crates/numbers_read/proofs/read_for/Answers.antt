-- `numbers_read::read_for` meets its contract: a handshake, or any frame.
-- Assumes nothing.
use Rattle.messages.specs.Messages.{read_of}
use Rattle.numbers_read.proofs.Plain.{plain_to, other_to}
use Rattle.numbers_read.proofs.read_for.Goals as goal

pub returns-then-put_handshake : goal.returns-then-put_handshake
returns-then-put_handshake c = plain_to (read_of c.args.kind c.args.frame.now) c.args.frame.now c.args.answer.now _ c.put_handshake.result (c.put_handshake.ensures c.args.kind) c.if-put_handshake.true c.args.«data».now c.args.entries.now

pub returns : goal.returns
returns c = other_to (read_of c.args.kind c.args.frame.now) c.args.frame.now c.args.answer.now _ c.put_handshake.result (c.put_handshake.ensures c.args.kind) c.if-put_handshake.false _ _ _ _ _ _ c.read_any.ensures
