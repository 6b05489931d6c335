-- `writer::refusals::refused_extended` meets its contract, message by message.
-- Assumes nothing.
use Rattle.writer.proofs.refusals.refused_extended.Goals as goal

pub returns-in-SampleName : goal.returns-in-SampleName
returns-in-SampleName c = rw c.in-SampleName.is c.refused_high.ensures

pub returns-in-Header : goal.returns-in-Header
returns-in-Header c = rw c.in-Header.is c.refused_rate.ensures
