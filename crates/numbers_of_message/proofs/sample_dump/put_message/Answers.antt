-- `numbers_of_message::sample_dump::put_message` meets its contract, message by message.
-- Assumes nothing.
use Rattle.numbers_of_message.proofs.sample_dump.put_message.Goals as goal

pub returns-in-Header : goal.returns-in-Header
returns-in-Header c = rw (c.in-Header.is, ← c.from.ensures) c.put.ensures

pub returns-in-Packet : goal.returns-in-Packet
returns-in-Packet c = rw c.in-Packet.is c.put-in-Packet.ensures

pub returns-in-Request : goal.returns-in-Request
returns-in-Request c = rw c.in-Request.is c.put-in-Request.ensures

pub returns-in-LoopPointTransmission : goal.returns-in-LoopPointTransmission
returns-in-LoopPointTransmission c = rw (c.in-LoopPointTransmission.is, ← c.from-in-LoopPointTransmission.ensures, ← c.loop_index.ensures) c.put-in-LoopPointTransmission.ensures

pub returns-in-LoopPointsRequest : goal.returns-in-LoopPointsRequest
returns-in-LoopPointsRequest c = rw (c.in-LoopPointsRequest.is, ← c.loop_index-in-LoopPointsRequest.ensures) c.put-in-LoopPointsRequest.ensures
