-- `read_tuning::bulk_request` meets its contract.
-- Assumes nothing.
use mathlib.Core.Path.{refl, sym, ap, ◌∙◌}
use native.Mathlib.Omega.{arith}
use Rattle.messages.specs.declared.head.Head.TheVariants as head
use Rattle.messages.specs.Messages.{plain_answer}
use Rattle.read_places.proofs.Laws.Answers.{reads_none}
use Rattle.read_tuning.proofs.Laws.Heads.{bulk_size, bulk_reads}
use Rattle.read_tuning.proofs.bulk_request.Goals as goal

pub returns-then-len-ne1 : goal.returns-then-len-ne1
returns-then-len-ne1 c = reads_none head.TuningBulkDumpRequest _ (bulk_size c.args.f.now c.len.ensures.seven (λ e. c.if-len-ne1.true (c.len.ensures.size ∙ e)))

pub returns : goal.returns
returns c =
    rw c.numbers.ensures
    record {
      says = λ d. rw c.u7_at.ensures (ap (plain_answer d head.TuningBulkDumpRequest) (sym (bulk_reads c.args.f.now c.len.ensures.seven (sym c.len.ensures.size ∙ c.if-len-ne1.false))));
      part = (omega arith, omega arith, omega arith, refl);
      start = (refl, refl);
    }
