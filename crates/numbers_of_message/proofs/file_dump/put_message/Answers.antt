-- `numbers_of_message::file_dump::put_message` meets its contract, message by message.
-- Assumes nothing.
use Rattle.numbers_of_message.proofs.file_dump.put_message.Goals as goal

pub returns-in-Header : goal.returns-in-Header
returns-in-Header c = rw (c.in-Header.is, ← c.type_number-t.ensures, ← c.device_number-s.ensures) c.put.ensures

pub returns-in-Packet : goal.returns-in-Packet
returns-in-Packet c = rw c.in-Packet.is c.put-in-Packet.ensures

pub returns-in-Request : goal.returns-in-Request
returns-in-Request c = rw (c.in-Request.is, ← c.type_number-t-in-Request.ensures, ← c.device_number-s-in-Request.ensures) c.put-in-Request.ensures
