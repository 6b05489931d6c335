-- `read_sample_dump::sample_dump::is_header` meets its contract: what is found is what the layout reads.
-- Assumes nothing.
use Rattle.read_places.proofs.Laws.Answers.{reads_some}
use Rattle.messages.specs.declared.head.Head.TheVariants as head
use Rattle.read_sample_dump.proofs.sample_dump.is_header.Goals as goal

pub returns : goal.returns
returns c = rw c.is_some.ensures (reads_some head.SampleDumpHeader c.args.f.now c.header.result c.header.ensures)
