-- `read_sample_dump::sample_dump::packet` meets its contract: the length is that of the layout, and the samples are the part from 1 on.
-- Assumes nothing.
use Rattle.read_places.proofs.Laws.Answers.{reads_none, reads_found}
use Rattle.read_sample_dump.proofs.Laws.SampleDump.{packet_not, packet_reads}
use mathlib.Core.Path.{refl, sym, ◌∙◌}
use native.Mathlib.Omega.{arith}
use Rattle.messages.specs.declared.head.Head.TheVariants as head
use Rattle.read_sample_dump.proofs.sample_dump.packet.Goals as goal

pub returns-then-len-ne-PACKET_FIELDS : goal.returns-then-len-ne-PACKET_FIELDS
returns-then-len-ne-PACKET_FIELDS c =
    let f = c.args.f.now in
    reads_none head.SampleDumpPacket f (packet_not f c.len.ensures.seven λ n. c.if-len-ne-PACKET_FIELDS.true (c.len.ensures.size ∙ n))

pub returns : goal.returns
returns c =
    let f = c.args.f.now in
    let n = sym c.len.ensures.size ∙ c.if-len-ne-PACKET_FIELDS.false in
    rw (c.numbers.ensures, c.u7_at.ensures)
    (reads_found head.SampleDumpPacket f _ _ (λ d. refl) (omega arith, omega arith, omega arith, refl) (refl, refl) (packet_reads f c.len.ensures.seven n))
