-- `read_tuning::scale_dump_1` meets its contract.
-- Assumes nothing.
use mathlib.Core.Path.{refl, sym, ap, ◌∙◌}
use native.Mathlib.Omega.{arith}
use Rattle.messages.specs.declared.head.Head.TheVariants as head
use Rattle.messages.specs.Messages.{plain_answer}
use Rattle.read_places.proofs.Laws.Answers.{reads_none}
use Rattle.read_tuning.proofs.Laws.Heads.{scale_dump_1_size, scale_dump_1_reads}
use Rattle.read_tuning.proofs.scale_dump_1.Goals as goal

pub returns-then-len-ne30 : goal.returns-then-len-ne30
returns-then-len-ne30 c = reads_none head.ScaleTuningDump1Byte _ (scale_dump_1_size c.args.f.now c.len.ensures.seven (λ e. c.if-len-ne30.true (c.len.ensures.size ∙ e)))

pub returns : goal.returns
returns c =
    let n = (sym c.len.ensures.size ∙ c.if-len-ne30.false) in
    record {
      says = λ d. rw (c.scale_1_at.ensures, c.u7_at-2.ensures, c.u7_at.ensures) (ap (plain_answer d head.ScaleTuningDump1Byte) (sym (scale_dump_1_reads c.args.f.now c.len.ensures.seven n)));
      part = (omega arith, omega arith, omega arith, refl);
      start = (refl, refl);
    }
