-- `read_tuning::scale_2` meets its contract.
-- Assumes nothing.
use borrow.Author.Rules.{rules}
use mathlib.Core.Path.{◌≡◌, refl, sym, ap, ◌∙◌}
use native.Mathlib.Omega.{arith}
use Rattle.std.specs.Prelude.{None}
use Rattle.messages.specs.declared.head.Head.TheVariants as head
use Rattle.messages.specs.Messages.{plain_answer}
use Rattle.read_places.proofs.Laws.Answers.{reads_none}
use Rattle.read_tuning.proofs.Laws.ChannelScales.{scale_2_size, scale_2_read, scale_2_spare}
use Rattle.read_tuning.proofs.scale_2.Goals as goal

pub returns-then-len-ne27 : goal.returns-then-len-ne27
returns-then-len-ne27 c = reads_none head.ScaleTuning2Byte _ (scale_2_size c.args.f.now c.len.ensures.seven (λ e. c.if-len-ne27.true (c.len.ensures.size ∙ e)))

pub returns-in_err-channels : goal.returns-in_err-channels
returns-in_err-channels c =
    let e : c.from_residual.result ≡ None = search rules in
    rw e
    (reads_none head.ScaleTuning2Byte _
    (scale_2_spare c.args.f.now c.len.ensures.seven (sym c.len.ensures.size ∙ c.if-len-ne27.false) (sym c.channels_at.ensures ∙ c.in_err-channels.was)))

pub returns : goal.returns
returns c =
    let v = sym c.channels_at.ensures ∙ c.in_ok-channels.was in
    rw c.numbers.ensures
    record {
      says = λ d. rw c.scale_2_at.ensures (ap (plain_answer d head.ScaleTuning2Byte) (sym (scale_2_read c.args.f.now c.len.ensures.seven _ (sym c.len.ensures.size ∙ c.if-len-ne27.false) v)));
      part = (omega arith, omega arith, omega arith, refl);
      start = (refl, refl);
    }
