-- `write_lists::text::put_samples` meets its contract: 120 bytes, filled with 00.
-- Assumes nothing.
use mathlib.Core.Path.{refl, sym, ◌∙◌}
use Rattle.write_lists.proofs.Laws.Fronts.{fronts}
use Rattle.write_lists.proofs.Laws.Texts.{filled_is}
use Rattle.write_lists.proofs.text.put_samples.Goals as goal

pub returns : goal.returns
returns c = c.put_filled.ensures ∙ fronts c.args.out.now (sym (filled_is 120 0 (λ i. refl) 0 120 c.args.s.now))
