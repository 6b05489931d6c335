-- `read_sample_dump::extended_sample_dump::extended_loop_points` meets its contract: the length is that of the layout, and the type is one of its table; each number is read by place, and 16,383 is delete all.
-- Assumes nothing.
use Rattle.read_places.proofs.Laws.Answers.{reads_none, reads_numbers}
use Rattle.read_sample_dump.proofs.Laws.ExtendedSampleDump.{loop_points_not, loop_points_reads}
use mathlib.Core.Path.{refl, sym, ◌∙◌}
use Rattle.messages.specs.declared.head.Head.TheVariants as head
use Rattle.read_sample_dump.proofs.extended_sample_dump.extended_loop_points.Goals as goal

pub returns-then-len-ne15 : goal.returns-then-len-ne15
returns-then-len-ne15 c =
    let f = c.args.f.now in
    reads_none head.ExtendedLoopPointTransmission f (loop_points_not f c.len.ensures.seven λ n t e. c.if-len-ne15.true (c.len.ensures.size ∙ n))

pub returns-in_err-loop_type : goal.returns-in_err-loop_type
returns-in_err-loop_type c =
    let f = c.args.f.now in
    let k = rw (c.in_err-loop_type.was, c.at.ensures) at c.extended_loop_type.ensures in
    rw c.from_residual.ensures (reads_none head.ExtendedLoopPointTransmission f (loop_points_not f c.len.ensures.seven λ n t e. k t e))

pub returns : goal.returns
returns c =
    let f = c.args.f.now in
    let e = rw (c.in_ok-loop_type.was, c.at.ensures) at c.extended_loop_type.ensures in
    let n = sym c.len.ensures.size ∙ c.if-len-ne15.false in
    rw (c.numbers.ensures, c.u35_at-2.ensures, c.u35_at.ensures, c.loop_number.ensures, c.u14_at-2.ensures, c.u14_at.ensures)
    (reads_numbers head.ExtendedLoopPointTransmission f _ _ (λ d. refl) refl refl (loop_points_reads f c.len.ensures.seven c.in_ok-loop_type.loop_type n e))
