-- `numbers_of_message::put_message` meets its contract, message by message.
-- Assumes nothing.
use Rattle.numbers_of_message.proofs.put_message.Goals as goal

pub returns-in-SampleDump : goal.returns-in-SampleDump
returns-in-SampleDump c = rw c.in-SampleDump.is c.put_message.ensures

pub returns-in-ExtendedSampleDump : goal.returns-in-ExtendedSampleDump
returns-in-ExtendedSampleDump c = rw c.in-ExtendedSampleDump.is c.put_message-in-ExtendedSampleDump.ensures

pub returns-in-IdentityRequest : goal.returns-in-IdentityRequest
returns-in-IdentityRequest c = rw c.in-IdentityRequest.is c.put.ensures

pub returns-in-IdentityReply : goal.returns-in-IdentityReply
returns-in-IdentityReply c = rw c.in-IdentityReply.is c.put_reply.ensures

pub returns-in-FileDump : goal.returns-in-FileDump
returns-in-FileDump c = rw c.in-FileDump.is c.put_message-in-FileDump.ensures

pub returns-in-TuningBulkDumpRequest : goal.returns-in-TuningBulkDumpRequest
returns-in-TuningBulkDumpRequest c = rw c.in-TuningBulkDumpRequest.is c.put_banked.ensures

pub returns-in-KeyBasedTuningDump : goal.returns-in-KeyBasedTuningDump
returns-in-KeyBasedTuningDump c = rw c.in-KeyBasedTuningDump.is c.put_banked-in-KeyBasedTuningDump.ensures

pub returns-in-ScaleTuningDump1Byte : goal.returns-in-ScaleTuningDump1Byte
returns-in-ScaleTuningDump1Byte c = rw c.in-ScaleTuningDump1Byte.is c.put_dump_1.ensures

pub returns-in-ScaleTuningDump2Byte : goal.returns-in-ScaleTuningDump2Byte
returns-in-ScaleTuningDump2Byte c = rw c.in-ScaleTuningDump2Byte.is c.put_dump_2.ensures

pub returns-in-TuningNoteChange : goal.returns-in-TuningNoteChange
returns-in-TuningNoteChange c = rw c.in-TuningNoteChange.is c.put_change.ensures

pub returns-in-ScaleTuning1Byte : goal.returns-in-ScaleTuning1Byte
returns-in-ScaleTuning1Byte c = rw c.in-ScaleTuning1Byte.is c.put_tuning_1.ensures

pub returns-in-ScaleTuning2Byte : goal.returns-in-ScaleTuning2Byte
returns-in-ScaleTuning2Byte c = rw c.in-ScaleTuning2Byte.is c.put_tuning_2.ensures

pub returns-in-GeneralMidi : goal.returns-in-GeneralMidi
returns-in-GeneralMidi c = rw c.in-GeneralMidi.is c.put_message-in-GeneralMidi.ensures

pub returns-in-FileReference : goal.returns-in-FileReference
returns-in-FileReference c = rw c.in-FileReference.is c.put_message-in-FileReference.ensures

pub returns-in-EOF : goal.returns-in-EOF
returns-in-EOF c = rw c.in-EOF.is c.put-in-EOF.ensures

pub returns-in-Wait : goal.returns-in-Wait
returns-in-Wait c = rw c.in-Wait.is c.put-in-Wait.ensures

pub returns-in-Cancel : goal.returns-in-Cancel
returns-in-Cancel c = rw c.in-Cancel.is c.put-in-Cancel.ensures

pub returns-in-NAK : goal.returns-in-NAK
returns-in-NAK c = rw c.in-NAK.is c.put-in-NAK.ensures

pub returns-in-ACK : goal.returns-in-ACK
returns-in-ACK c = rw c.in-ACK.is c.put-in-ACK.ensures
