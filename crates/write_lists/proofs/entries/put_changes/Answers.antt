-- `write_lists::entries::put_changes` meets its contract: a number, and after it so many note changes.
-- Assumes nothing.
use mathlib.Core.Path.{sym, ◌∙◌}
use Rattle.messages.specs.Entries.{change_of}
use Rattle.messages.specs.Structures.{key_tuning}
use Rattle.write_lists.proofs.Laws.Fronts.{fronts}
use Rattle.write_lists.proofs.Laws.Lists.{counted_is}
use Rattle.write_lists.proofs.entries.put_changes.Goals as goal

pub returns : goal.returns
returns c = c.put_counted.ensures ∙ fronts c.args.out.now (sym (counted_is key_tuning change_of c.args.s.now))
