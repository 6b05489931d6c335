-- `writer::refusals::refused_file` meets its contract, message by message.
-- Assumes nothing.
use Rattle.writer.proofs.refusals.refused_file.Goals as goal

pub returns-in-Header : goal.returns-in-Header
returns-in-Header c = rw c.in-Header.is c.refused_header.ensures

pub returns-in-Packet : goal.returns-in-Packet
returns-in-Packet c = rw c.in-Packet.is c.refused_long.ensures

pub returns-in-Request : goal.returns-in-Request
returns-in-Request c = rw c.in-Request.is c.refused_request.ensures
