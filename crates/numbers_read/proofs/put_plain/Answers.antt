-- `numbers_read::put_plain` meets its contract: a sample header, or none.
-- Assumes nothing.
use Rattle.numbers_read.proofs.put_plain.Goals as goal

pub put_header-requires : goal.put_header-requires
put_header-requires c = (c.requires.0, c.in-SampleDumpHeader.is, c.requires.1)
