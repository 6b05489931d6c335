-- `read_sample_dump::sample_dump::is_packet` meets its contract: the length is that of the layout.
-- Assumes nothing.
use Prim.Native.Nat.{◌+◌}
use Rattle.messages.specs.Layouts.{form}
use Rattle.read_places.proofs.Laws.Answers.{read_if}
use Rattle.read_sample_dump.proofs.Laws.SampleDump.{packet_not, packet_reads}
use Rattle.util.specs.Limits.{sample_bytes}
use lib.ListN.{length}
use Rattle.messages.specs.declared.head.Head.TheVariants as head
use Rattle.read_sample_dump.proofs.sample_dump.is_packet.Goals as goal

pub returns : goal.returns
returns c =
    let f = c.args.f.now in
    let s = c.len.ensures.seven in
    rw c.len.ensures.size (read_if ((form head.SampleDumpPacket).read f) _ (length f) (1 + sample_bytes) (packet_reads f s) (packet_not f s))
