-- `read_sample_dump::extended_sample_dump::sample_name` meets its contract: 00 and the count stand before the name, and nothing follows it.
-- Assumes nothing.
use Rattle.read_places.proofs.Laws.Answers.{reads_none, reads_found}
use Rattle.read_sample_dump.proofs.Laws.ExtendedSampleDump.{name_not, name_reads}
use mathlib.Core.Path.{refl}
use native.Mathlib.Omega.{arith}
use Rattle.messages.specs.declared.head.Head.TheVariants as head
use Rattle.read_sample_dump.proofs.extended_sample_dump.sample_name.Goals as goal

pub returns-then-zero-ne0 : goal.returns-then-zero-ne0
returns-then-zero-ne0 c = reads_none head.SampleName c.args.f.now (name_not c.args.f.now c.len-size.ensures.seven λ m z n. grind arith)

pub returns : goal.returns
returns c =
    let f = c.args.f.now in
    rw (c.numbers.ensures, c.u14_at.ensures, c.at-n.ensures)
    (reads_found head.SampleName f _ _ (λ d. refl) (omega arith, omega arith, omega arith, refl) (refl, refl) (name_reads f c.len-size.ensures.seven (omega arith) (omega arith) (omega arith)))
