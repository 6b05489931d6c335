-- `numbers_to_message::number::flag_of` meets its contract: the tests are those of the definition.
-- Assumes nothing.
use Rattle.numbers_to_message.proofs.number.flag_of.Goals as goal

pub returns-in-0 : goal.returns-in-0
returns-in-0 c = rw (c.in-0.is)

pub returns-in-1 : goal.returns-in-1
returns-in-1 c = rw (c.in-1.is)
