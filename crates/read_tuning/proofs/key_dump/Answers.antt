-- `read_tuning::key_dump` meets its contract.
-- Assumes nothing.
use mathlib.Core.Path.{refl, sym, ap, ◌∙◌}
use native.Mathlib.Omega.{arith}
use Rattle.messages.specs.declared.head.Head.TheVariants as head
use Rattle.messages.specs.Messages.{plain_answer}
use Rattle.read_places.proofs.Laws.Answers.{reads_none}
use Rattle.read_tuning.proofs.Laws.Heads.{keys_size, keys_read}
use Rattle.read_tuning.proofs.key_dump.Goals as goal

pub returns-then-len-ne401 : goal.returns-then-len-ne401
returns-then-len-ne401 c = reads_none head.KeyBasedTuningDump _ (keys_size c.args.f.now c.len.ensures.seven (λ e. c.if-len-ne401.true (c.len.ensures.size ∙ e)))

pub returns : goal.returns
returns c =
    let n = (sym c.len.ensures.size ∙ c.if-len-ne401.false) in
    record {
      says = λ d. rw c.u7_at.ensures (ap (plain_answer d head.KeyBasedTuningDump) (sym (keys_read c.args.f.now c.len.ensures.seven n)));
      part = (omega arith, omega arith, omega arith, refl);
      start = (refl, refl);
    }
