-- `numbers_of_message::extended_sample_dump::put_message` meets its contract, message by message.
-- Assumes nothing.
use Rattle.numbers_of_message.proofs.extended_sample_dump.put_message.Goals as goal

pub returns-in-SampleName : goal.returns-in-SampleName
returns-in-SampleName c = rw c.in-SampleName.is c.put.ensures

pub returns-in-SampleNameRequest : goal.returns-in-SampleNameRequest
returns-in-SampleNameRequest c = rw c.in-SampleNameRequest.is c.put-in-SampleNameRequest.ensures

pub returns-in-Header : goal.returns-in-Header
returns-in-Header c = rw (c.in-Header.is, ← c.from.ensures) c.put-in-Header.ensures

pub returns-in-LoopPointTransmission : goal.returns-in-LoopPointTransmission
returns-in-LoopPointTransmission c = rw (c.in-LoopPointTransmission.is, ← c.from-in-LoopPointTransmission.ensures, ← c.loop_index.ensures) c.put-in-LoopPointTransmission.ensures

pub returns-in-LoopPointsRequest : goal.returns-in-LoopPointsRequest
returns-in-LoopPointsRequest c = rw (c.in-LoopPointsRequest.is, ← c.loop_index-in-LoopPointsRequest.ensures) c.put-in-LoopPointsRequest.ensures
