-- `walk::put_pair` meets its contract. Assumes nothing.
use borrow.Author.Tests.{lt-ltb, le-ltb}
use Rattle.walk.specs.Steps.{put}
use Rattle.walk.proofs.put_pair.Goals as goal

pub returns-then-k-index : goal.returns-then-k-index
unfolding put
returns-then-k-index c = simp (lt-ltb _ _ c.if-k-index.true)

pub returns-else-k-index : goal.returns-else-k-index
unfolding put
returns-else-k-index c = simp (le-ltb _ _ c.if-k-index.false)
