-- `write_lists::text::put_sample_name` meets its contract: the length, and after it so many bytes.
-- Assumes nothing.
use mathlib.Core.Path.{sym, ◌∙◌}
use Rattle.messages.specs.Fields.{u7}
use Rattle.write_lists.proofs.Laws.Fronts.{fronts}
use Rattle.write_lists.proofs.Laws.Lists.{counted_each}
use Rattle.write_lists.proofs.text.put_sample_name.Goals as goal

pub returns : goal.returns
returns c = c.put_counted.ensures ∙ fronts c.args.out.now (sym (counted_each u7 c.args.s.now))
