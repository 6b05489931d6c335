-- `numbers_read::put_packet` meets its contract: a head of one byte, and the packet as its field.
-- Assumes nothing.
use Rattle.numbers_read.proofs.Handshake.{nak_any, ack_any}
use Rattle.numbers_read.proofs.put_packet.Goals as goal

pub returns-then-head-eq126 : goal.returns-then-head-eq126
returns-then-head-eq126 c = λ k. nak_any k c.args.device c.args.packet c.requires.1 c.requires.2 c.args.head c.if-head-eq126.true c.args.answer.now _ c.put_numbered.ensures

pub returns-then-head-eq127 : goal.returns-then-head-eq127
returns-then-head-eq127 c = λ k. ack_any k c.args.device c.args.packet c.requires.1 c.requires.2 c.args.head c.if-head-eq127.true c.args.answer.now _ c.put_numbered-then-head-eq127.ensures
