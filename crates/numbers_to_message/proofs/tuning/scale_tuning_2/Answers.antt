-- `numbers_to_message::tuning::scale_tuning_2` meets its contract: the row's types, and the message of its values.
-- Assumes nothing.
use Rattle.numbers_to_message.proofs.tuning.scale_tuning_2.Goals as goal

pub returns : goal.returns
returns c = rw (c.row.ensures, c.tuning_types.ensures, c.scale_2.ensures, c.u16_at.ensures)
