-- `numbers_of_message::tuning::put_tuning_1` meets its contract: the numbers of the scale come after the channels.
-- Assumes nothing.
use Rattle.numbers_of_message.proofs.tuning.put_tuning_1.Goals as goal

pub returns : goal.returns
returns c = rw (← c.scale_1.ensures) c.put_both.ensures
