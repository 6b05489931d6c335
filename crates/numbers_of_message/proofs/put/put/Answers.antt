-- `numbers_of_message::put::put` meets its contract: where the slice is shorter nothing is written.
-- Assumes nothing.
use mathlib.Core.Path.{refl}
use borrow.Author.Tests.{lt-leb, le-leb}
use Rattle.numbers_of_message.proofs.put.put.Goals as goal

pub returns-then-out-count : goal.returns-then-out-count
returns-then-out-count c = record { count = refl; there = rw (lt-leb _ _ c.if-out-count.true) }

pub returns : goal.returns
returns c = record { count = refl; there = rw (le-leb _ _ c.if-out-count.false) c.copy.ensures }
