-- `numbers_of_message::identity::put_reply` meets its contract, message by message.
-- Assumes nothing.
use Rattle.numbers_of_message.proofs.identity.put_reply.Goals as goal

pub returns-in-OneByte : goal.returns-in-OneByte
returns-in-OneByte c = rw c.in-OneByte.is c.put_maker.ensures

pub returns-in-Extended : goal.returns-in-Extended
returns-in-Extended c = rw c.in-Extended.is c.put_maker-in-Extended.ensures
