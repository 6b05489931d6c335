-- `writer::refusals::refused_reference` meets its contract, message by message.
-- Assumes nothing.
use Rattle.writer.proofs.Laws.Contents.{kind_entries}
use Rattle.writer.proofs.refusals.refused_reference.Goals as goal

pub returns-in-Open : goal.returns-in-Open
returns-in-Open c = rw c.in-Open.is c.refused_url.ensures

pub returns-in-OpenSelectContents : goal.returns-in-OpenSelectContents
returns-in-OpenSelectContents c = rw (c.in-OpenSelectContents.is, kind_entries) c.refused_open.ensures
