-- `writer::refusals::is_text` meets its contract: it tests each byte.
-- Assumes nothing.
use Rattle.std.proofs.Common.{rules, refl, ◌&&◌, ltb}
use Rattle.std.proofs.lemmas.List.Recursion.{and_is}
use Rattle.messages.specs.format.Texts.{is_text}
use Rattle.writer.proofs.Laws.Contents.{text_step}
use Rattle.writer.proofs.refusals.is_text.Goals as goal

pub returns : goal.returns
returns c = and_is is_text (λ b. ltb 0 b && ltb b 128) refl text_step c.args.s.now 0 _ (λ e i h. search rules) (λ e. search rules)
