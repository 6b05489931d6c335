-- `numbers_to_message::number::reference_type_of` meets its contract: the tests are those of the definition.
-- Assumes nothing.
use Rattle.numbers_to_message.proofs.number.reference_type_of.Goals as goal

pub returns-in-0 : goal.returns-in-0
returns-in-0 c = rw (c.in-0.is)

pub returns-in-1 : goal.returns-in-1
returns-in-1 c = rw (c.in-1.is)

pub returns-in-2 : goal.returns-in-2
returns-in-2 c = rw (c.in-2.is)
