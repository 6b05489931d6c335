-- `writer::refusals::refused` meets its contract, message by message.
-- Assumes nothing.
use mathlib.Core.Path.{sym, ap, ◌∙◌}
use Rattle.writer.specs.Write.{told}
use Rattle.writer.proofs.Laws.Contents.{keys_high, changes_long}
use Rattle.writer.proofs.refusals.refused.Goals as goal

pub returns-in-ExtendedSampleDump : goal.returns-in-ExtendedSampleDump
returns-in-ExtendedSampleDump c = rw c.in-ExtendedSampleDump.is c.refused_extended.ensures

pub returns-in-IdentityReply : goal.returns-in-IdentityReply
returns-in-IdentityReply c = rw c.in-IdentityReply.is c.refused_maker.ensures

pub returns-in-FileDump : goal.returns-in-FileDump
returns-in-FileDump c = rw c.in-FileDump.is c.refused_file.ensures

pub returns-in-KeyBasedTuningDump : goal.returns-in-KeyBasedTuningDump
returns-in-KeyBasedTuningDump c =
    let d = c.in-KeyBasedTuningDump.field-0 in
    rw c.in-KeyBasedTuningDump.is
    (c.refused_high.ensures ∙ sym (ap told (keys_high d.tuning_bank_num d.tuning_program_num c.args.text.now c.args.entries.now)))

pub returns-in-ScaleTuningDump1Byte : goal.returns-in-ScaleTuningDump1Byte
returns-in-ScaleTuningDump1Byte c = rw c.in-ScaleTuningDump1Byte.is c.refused_high-in-ScaleTuningDump1Byte.ensures

pub returns-in-ScaleTuningDump2Byte : goal.returns-in-ScaleTuningDump2Byte
returns-in-ScaleTuningDump2Byte c = rw c.in-ScaleTuningDump2Byte.is c.refused_high-in-ScaleTuningDump2Byte.ensures

pub returns-in-TuningNoteChange : goal.returns-in-TuningNoteChange
returns-in-TuningNoteChange c = rw (c.in-TuningNoteChange.is, changes_long) c.refused_long.ensures

pub returns-in-FileReference : goal.returns-in-FileReference
returns-in-FileReference c = rw c.in-FileReference.is c.refused_reference.ensures
