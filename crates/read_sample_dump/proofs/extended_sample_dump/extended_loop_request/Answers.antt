-- `read_sample_dump::extended_sample_dump::extended_loop_request` meets its contract: the length is that of the layout, and the numbers are read by place.
-- Assumes nothing.
use Rattle.read_places.proofs.Laws.Answers.{reads_test}
use Rattle.read_sample_dump.proofs.Laws.ExtendedSampleDump.{loop_request_not, loop_request_reads}
use lib.ListN.{length}
use mathlib.Core.Path.{refl}
use Rattle.messages.specs.declared.head.Head.TheVariants as head
use Rattle.read_sample_dump.proofs.extended_sample_dump.extended_loop_request.Goals as goal

pub returns : goal.returns
returns c =
    let f = c.args.f.now in
    let s = c.len.ensures.seven in
    rw (c.then_some.ensures, c.numbers.ensures, c.loop_number.ensures, c.u14_at-2.ensures, c.u14_at.ensures, c.len.ensures.size)
    (reads_test head.ExtendedLoopPointsRequest f _ _ (λ d. refl) refl refl (length f) 4 (loop_request_reads f s) (loop_request_not f s))
