-- `numbers_to_message::identity::reply` meets its contract: each field is the value of its number.
-- Assumes nothing.
use Rattle.numbers_to_message.proofs.identity.reply.Goals as goal

pub returns : goal.returns
returns c = rw (c.u16_at.ensures, c.u16_at-2.ensures, c.u8_at.ensures, c.u8_at-2.ensures, c.u8_at-3.ensures, c.u8_at-4.ensures)
