-- `numbers_of_message::general_midi::put_message` meets its contract, message by message.
-- Assumes nothing.
use Rattle.numbers_of_message.proofs.general_midi.put_message.Goals as goal

pub returns-in-GM1 : goal.returns-in-GM1
returns-in-GM1 c = rw c.in-GM1.is c.put.ensures

pub returns-in-Off : goal.returns-in-Off
returns-in-Off c = rw c.in-Off.is c.put-in-Off.ensures

pub returns-in-GM2 : goal.returns-in-GM2
returns-in-GM2 c = rw c.in-GM2.is c.put-in-GM2.ensures
