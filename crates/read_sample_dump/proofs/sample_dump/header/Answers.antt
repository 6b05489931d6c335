-- `read_sample_dump::sample_dump::header` meets its contract: the length is that of the layout, the format in its range, and the type one of its table; each number is read by place.
-- Assumes nothing.
use Rattle.read_places.proofs.Laws.Answers.{reads_none, reads_numbers}
use Rattle.read_sample_dump.proofs.Laws.SampleDump.{header_not, header_reads}
use mathlib.Core.Path.{refl}
use native.Mathlib.Omega.{arith}
use Rattle.messages.specs.declared.head.Head.TheVariants as head
use Rattle.read_sample_dump.proofs.sample_dump.header.Goals as goal

pub returns-in_err-loop_type : goal.returns-in_err-loop_type
returns-in_err-loop_type c =
    let f = c.args.f.now in
    let k = rw (c.in_err-loop_type.was, c.at.ensures) at c.loop_type.ensures in
    rw c.from_residual.ensures (reads_none head.SampleDumpHeader f (header_not f c.len.ensures.seven λ n p q t e. k t e))

pub returns : goal.returns
returns c =
    let f = c.args.f.now in
    let e = rw (c.in_ok-loop_type.was, c.at.ensures) at c.loop_type.ensures in
    rw (c.numbers.ensures, c.u21_at-4.ensures, c.u21_at-3.ensures, c.u21_at-2.ensures, c.u21_at.ensures, c.u14_at.ensures, c.at-format.ensures)
    (reads_numbers head.SampleDumpHeader f _ _ (λ d. refl) refl refl (header_reads f c.len.ensures.seven c.in_ok-loop_type.loop_type (omega arith) (omega arith) (omega arith) e))
