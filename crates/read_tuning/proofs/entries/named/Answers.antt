-- `read_tuning::entries::named` meets its contract.
-- Assumes nothing.
use native.Mathlib.Omega.{arith}
use Rattle.read_tuning.proofs.Laws.Entries.{named_none, named_other}
use Rattle.read_tuning.proofs.entries.named.Goals as goal

pub returns-then-entry-eq8339455 : goal.returns-then-entry-eq8339455
returns-then-entry-eq8339455 c = (named_none c.args.semitone c.args.fraction c.requires.1 c.if-entry-eq8339455.true, omega arith)

pub returns-else-entry-eq8339455 : goal.returns-else-entry-eq8339455
returns-else-entry-eq8339455 c = (named_other c.args.semitone c.args.fraction c.requires.1 c.if-entry-eq8339455.false, omega arith)
