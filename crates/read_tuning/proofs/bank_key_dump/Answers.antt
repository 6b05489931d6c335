-- `read_tuning::bank_key_dump` meets its contract.
-- Assumes nothing.
use mathlib.Core.Path.{refl, sym, ap, ◌∙◌}
use native.Mathlib.Omega.{arith}
use Rattle.messages.specs.declared.head.Head.TheVariants as head
use Rattle.messages.specs.Messages.{plain_answer}
use Rattle.read_places.proofs.Laws.Answers.{reads_none}
use Rattle.read_tuning.proofs.Laws.Heads.{bank_keys_size, bank_keys_read}
use Rattle.read_tuning.proofs.bank_key_dump.Goals as goal

pub returns-then-len-ne402 : goal.returns-then-len-ne402
returns-then-len-ne402 c = reads_none head.BankKeyBasedTuningDump _ (bank_keys_size c.args.f.now c.len.ensures.seven (λ e. c.if-len-ne402.true (c.len.ensures.size ∙ e)))

pub returns : goal.returns
returns c =
    let n = (sym c.len.ensures.size ∙ c.if-len-ne402.false) in
    record {
      says = λ d. rw (c.u7_at-2.ensures, c.u7_at.ensures) (ap (plain_answer d head.BankKeyBasedTuningDump) (sym (bank_keys_read c.args.f.now c.len.ensures.seven n)));
      part = (omega arith, omega arith, omega arith, refl);
      start = (refl, refl);
    }
