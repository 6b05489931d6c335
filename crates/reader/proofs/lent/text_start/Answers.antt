-- `reader::lent::text_start` meets its contract: 0, or a place of the frame.
-- Assumes nothing.
use borrow.Author.Tests.{eq-eqb, ne_eqb}
use Rattle.reader.proofs.lent.text_start.Goals as goal

pub returns-then-from-eq0 : goal.returns-then-from-eq0
returns-then-from-eq0 c = rw (eq-eqb c.args.from 0 c.if-from-eq0.true)

pub returns : goal.returns
returns c = rw (ne_eqb c.args.from 0 c.if-from-eq0.false)
