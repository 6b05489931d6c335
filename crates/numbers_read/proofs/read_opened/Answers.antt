-- `numbers_read::read_opened` meets its contract: with no lent space, or with it.
-- Assumes nothing.
use Rattle.numbers_read.proofs.Plain.{plain_to, other_to}
use Rattle.numbers_read.proofs.read_opened.Goals as goal

pub returns-then-put_plain : goal.returns-then-put_plain
returns-then-put_plain c = plain_to _ c.args.frame.now c.args.answer.now _ c.put_plain.result c.put_plain.ensures c.if-put_plain.true c.args.«data».now c.args.entries.now

pub returns : goal.returns
returns c = other_to _ c.args.frame.now c.args.answer.now _ c.put_plain.result c.put_plain.ensures c.if-put_plain.false _ _ _ _ _ _ c.read_fields.ensures
