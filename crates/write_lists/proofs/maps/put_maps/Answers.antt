-- `write_lists::maps::put_maps` meets its contract: a number, and after it so many bank maps.
-- Assumes nothing.
use mathlib.Core.Path.{sym, ◌∙◌}
use Rattle.messages.specs.Entries.{map_of}
use Rattle.messages.specs.Maps.{sound_file_map}
use Rattle.write_lists.proofs.Laws.Fronts.{fronts}
use Rattle.write_lists.proofs.Laws.Lists.{counted_is}
use Rattle.write_lists.proofs.maps.put_maps.Goals as goal

pub returns : goal.returns
returns c = c.put_counted.ensures ∙ fronts c.args.out.now (sym (counted_is sound_file_map map_of c.args.s.now))
