-- `read_tuning::scale_dump_2` meets its contract.
-- Assumes nothing.
use mathlib.Core.Path.{refl, sym, ap, ◌∙◌}
use native.Mathlib.Omega.{arith}
use Rattle.messages.specs.declared.head.Head.TheVariants as head
use Rattle.messages.specs.Messages.{plain_answer}
use Rattle.read_places.proofs.Laws.Answers.{reads_none}
use Rattle.read_tuning.proofs.Laws.Heads.{scale_dump_2_size, scale_dump_2_reads}
use Rattle.read_tuning.proofs.scale_dump_2.Goals as goal

pub returns-then-len-ne42 : goal.returns-then-len-ne42
returns-then-len-ne42 c = reads_none head.ScaleTuningDump2Byte _ (scale_dump_2_size c.args.f.now c.len.ensures.seven (λ e. c.if-len-ne42.true (c.len.ensures.size ∙ e)))

pub returns : goal.returns
returns c =
    let n = (sym c.len.ensures.size ∙ c.if-len-ne42.false) in
    record {
      says = λ d. rw (c.scale_2_at.ensures, c.u7_at-2.ensures, c.u7_at.ensures) (ap (plain_answer d head.ScaleTuningDump2Byte) (sym (scale_dump_2_reads c.args.f.now c.len.ensures.seven n)));
      part = (omega arith, omega arith, omega arith, refl);
      start = (refl, refl);
    }
