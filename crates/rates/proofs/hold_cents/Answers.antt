-- `rates::hold_cents` meets its contract: each arm returns what the definition picks by the two tests.
-- Assumes nothing.
use lib.Ieee.{of_bits}
use Rattle.rates.proofs.Cents.{hold_between, hold_above, hold_below}
use Rattle.rates.proofs.hold_cents.Goals as goal

pub returns-then-cents-2 : goal.returns-then-cents-2
unfolding of_bits
returns-then-cents-2 c = hold_between c.args.cents c.if-cents.true c.if-cents-2.true

pub returns-else-cents-2 : goal.returns-else-cents-2
unfolding of_bits
returns-else-cents-2 c = hold_above c.args.cents c.if-cents.true c.if-cents-2.false

pub returns-else-cents : goal.returns-else-cents
unfolding of_bits
returns-else-cents c = hold_below c.args.cents c.if-cents.false
