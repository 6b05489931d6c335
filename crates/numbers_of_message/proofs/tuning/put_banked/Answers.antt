-- `numbers_of_message::tuning::put_banked` meets its contract, message by message.
-- Assumes nothing.
use Rattle.numbers_of_message.proofs.tuning.put_banked.Goals as goal

pub returns-in-None : goal.returns-in-None
returns-in-None c = rw c.in-None.is c.put.ensures

pub returns-in-Some : goal.returns-in-Some
returns-in-Some c = rw c.in-Some.is c.put-in-Some.ensures
