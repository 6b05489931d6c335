-- `numbers_to_message::number::loop_type_of` meets its contract: the loop type is that of the byte.
-- Assumes nothing.
use mathlib.Core.Path.{◌∙◌}
use Rattle.numbers_to_message.proofs.Loops.{loop_of_byte}
use Rattle.numbers_to_message.proofs.number.loop_type_of.Goals as goal

pub returns : goal.returns
returns c = c.ok.ensures.value ∙ loop_of_byte c.args.x c.in_ok-u8_of.field-0 _ c.in_ok-u8_of.ensures c.try_from.ensures
