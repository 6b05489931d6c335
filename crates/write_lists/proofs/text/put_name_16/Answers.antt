-- `write_lists::text::put_name_16` meets its contract: 16 bytes, filled with spaces.
-- Assumes nothing.
use mathlib.Core.Path.{refl, sym, ◌∙◌}
use Rattle.write_lists.proofs.Laws.Fronts.{fronts}
use Rattle.write_lists.proofs.Laws.Texts.{filled_is}
use Rattle.write_lists.proofs.text.put_name_16.Goals as goal

pub returns : goal.returns
returns c = c.put_filled.ensures ∙ fronts c.args.out.now (sym (filled_is 16 32 (λ i. refl) 0 16 c.args.s.now))
