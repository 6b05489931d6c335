-- `write_fronts::put_front` meets its contract, message by message.
-- Assumes nothing.
use Rattle.write_fronts.proofs.put_front.Goals as goal

pub put-requires : goal.put-requires
put-requires c = rw c.in-SampleDump.is at c.requires

pub put-requires-in-ExtendedSampleDump : goal.put-requires-in-ExtendedSampleDump
put-requires-in-ExtendedSampleDump c = rw c.in-ExtendedSampleDump.is at c.requires

pub put_identity_request-requires : goal.put_identity_request-requires
put_identity_request-requires c = rw c.in-IdentityRequest.is at c.requires

pub put_identity_reply-requires : goal.put_identity_reply-requires
put_identity_reply-requires c = rw c.in-IdentityReply.is at c.requires

pub put-requires-in-FileDump : goal.put-requires-in-FileDump
put-requires-in-FileDump c = rw c.in-FileDump.is at c.requires

pub put_banked-requires : goal.put_banked-requires
put_banked-requires c = rw c.in-TuningBulkDumpRequest.is at c.requires

pub put_banked-requires-in-KeyBasedTuningDump : goal.put_banked-requires-in-KeyBasedTuningDump
put_banked-requires-in-KeyBasedTuningDump c = rw c.in-KeyBasedTuningDump.is at c.requires

pub put_bank_program-requires : goal.put_bank_program-requires
put_bank_program-requires c = rw c.in-ScaleTuningDump1Byte.is at c.requires

pub put_bank_program-requires-in-ScaleTuningDump2Byte : goal.put_bank_program-requires-in-ScaleTuningDump2Byte
put_bank_program-requires-in-ScaleTuningDump2Byte c = rw c.in-ScaleTuningDump2Byte.is at c.requires

pub put_change-requires : goal.put_change-requires
put_change-requires c = rw c.in-TuningNoteChange.is at c.requires

pub put_scale-requires : goal.put_scale-requires
put_scale-requires c = rw c.in-ScaleTuning1Byte.is at c.requires

pub put_scale-requires-in-ScaleTuning2Byte : goal.put_scale-requires-in-ScaleTuning2Byte
put_scale-requires-in-ScaleTuning2Byte c = rw c.in-ScaleTuning2Byte.is at c.requires

pub put_general_midi-requires : goal.put_general_midi-requires
put_general_midi-requires c = rw c.in-GeneralMidi.is at c.requires

pub put-requires-in-FileReference : goal.put-requires-in-FileReference
put-requires-in-FileReference c = rw c.in-FileReference.is at c.requires

pub put_handshake-requires : goal.put_handshake-requires
put_handshake-requires c = rw c.in-EOF.is at c.requires

pub put_handshake-requires-in-Wait : goal.put_handshake-requires-in-Wait
put_handshake-requires-in-Wait c = rw c.in-Wait.is at c.requires

pub put_handshake-requires-in-Cancel : goal.put_handshake-requires-in-Cancel
put_handshake-requires-in-Cancel c = rw c.in-Cancel.is at c.requires

pub put_handshake-requires-in-NAK : goal.put_handshake-requires-in-NAK
put_handshake-requires-in-NAK c = rw c.in-NAK.is at c.requires

pub put_handshake-requires-in-ACK : goal.put_handshake-requires-in-ACK
put_handshake-requires-in-ACK c = rw c.in-ACK.is at c.requires

pub returns-in-SampleDump : goal.returns-in-SampleDump
returns-in-SampleDump c = rw c.in-SampleDump.is c.put.ensures

pub returns-in-ExtendedSampleDump : goal.returns-in-ExtendedSampleDump
returns-in-ExtendedSampleDump c = rw c.in-ExtendedSampleDump.is c.put-in-ExtendedSampleDump.ensures

pub returns-in-IdentityRequest : goal.returns-in-IdentityRequest
returns-in-IdentityRequest c = rw c.in-IdentityRequest.is c.put_identity_request.ensures

pub returns-in-IdentityReply : goal.returns-in-IdentityReply
returns-in-IdentityReply c = rw c.in-IdentityReply.is c.put_identity_reply.ensures

pub returns-in-FileDump : goal.returns-in-FileDump
returns-in-FileDump c = rw c.in-FileDump.is c.put-in-FileDump.ensures

pub returns-in-TuningBulkDumpRequest : goal.returns-in-TuningBulkDumpRequest
returns-in-TuningBulkDumpRequest c = rw c.in-TuningBulkDumpRequest.is c.put_banked.ensures

pub returns-in-KeyBasedTuningDump : goal.returns-in-KeyBasedTuningDump
returns-in-KeyBasedTuningDump c = rw c.in-KeyBasedTuningDump.is c.put_banked-in-KeyBasedTuningDump.ensures

pub returns-in-ScaleTuningDump1Byte : goal.returns-in-ScaleTuningDump1Byte
returns-in-ScaleTuningDump1Byte c = rw c.in-ScaleTuningDump1Byte.is c.put_bank_program.ensures

pub returns-in-ScaleTuningDump2Byte : goal.returns-in-ScaleTuningDump2Byte
returns-in-ScaleTuningDump2Byte c = rw c.in-ScaleTuningDump2Byte.is c.put_bank_program-in-ScaleTuningDump2Byte.ensures

pub returns-in-TuningNoteChange : goal.returns-in-TuningNoteChange
returns-in-TuningNoteChange c = rw c.in-TuningNoteChange.is c.put_change.ensures

pub returns-in-ScaleTuning1Byte : goal.returns-in-ScaleTuning1Byte
returns-in-ScaleTuning1Byte c = rw c.in-ScaleTuning1Byte.is c.put_scale.ensures

pub returns-in-ScaleTuning2Byte : goal.returns-in-ScaleTuning2Byte
returns-in-ScaleTuning2Byte c = rw c.in-ScaleTuning2Byte.is c.put_scale-in-ScaleTuning2Byte.ensures

pub returns-in-GeneralMidi : goal.returns-in-GeneralMidi
returns-in-GeneralMidi c = rw c.in-GeneralMidi.is c.put_general_midi.ensures

pub returns-in-FileReference : goal.returns-in-FileReference
returns-in-FileReference c = rw c.in-FileReference.is c.put-in-FileReference.ensures

pub returns-in-EOF : goal.returns-in-EOF
returns-in-EOF c = rw c.in-EOF.is c.put_handshake.ensures

pub returns-in-Wait : goal.returns-in-Wait
returns-in-Wait c = rw c.in-Wait.is c.put_handshake-in-Wait.ensures

pub returns-in-Cancel : goal.returns-in-Cancel
returns-in-Cancel c = rw c.in-Cancel.is c.put_handshake-in-Cancel.ensures

pub returns-in-NAK : goal.returns-in-NAK
returns-in-NAK c = rw c.in-NAK.is c.put_handshake-in-NAK.ensures

pub returns-in-ACK : goal.returns-in-ACK
returns-in-ACK c = rw c.in-ACK.is c.put_handshake-in-ACK.ensures
