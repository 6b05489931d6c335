-- `numbers_to_message::number::u32_of` meets its contract: what std converts is below the limit.
-- Assumes nothing.
use mathlib.Core.Path.{◌∙◌}
use Rattle.numbers_to_message.proofs.Options.{try_below}
use Rattle.numbers_to_message.proofs.number.u32_of.Goals as goal

pub returns : goal.returns
returns c = c.ok.ensures.value ∙ try_below 32 c.args.x c.try_from.result c.try_from.ensures
