-- `reader::test::is_brief` meets its contract.
-- Assumes nothing.
use borrow.Author.Tests.{eq-eqb, ne_eqb, lt-ltb, le-ltb}
use Rattle.reader.proofs.test.is_brief.Goals as goal

pub returns-then-a-eq6 : goal.returns-then-a-eq6
returns-then-a-eq6 c = rw (eq-eqb _ _ c.if-a-eq6.true)

pub returns-then-a-gt125 : goal.returns-then-a-gt125
returns-then-a-gt125 c = rw (ne_eqb _ _ c.if-a-eq6.false, lt-ltb _ _ c.if-a-gt125.true)

pub returns-then-a-gt122 : goal.returns-then-a-gt122
returns-then-a-gt122 c = rw (ne_eqb _ _ c.if-a-eq6.false, le-ltb _ _ c.if-a-gt125.false, lt-ltb _ _ c.if-a-gt122.true)

pub returns : goal.returns
returns c = rw (ne_eqb _ _ c.if-a-eq6.false, le-ltb _ _ c.if-a-gt125.false, le-ltb _ _ c.if-a-gt122.false)
