-- `replay_rates::single` meets its contract: bits above those of infinity are NaN, and the bits that it takes are no NaN's.
-- Assumes nothing.
use lib.Ieee.{binary32, of_bits}
use Rattle.replay_rates.proofs.Numbers.{not_nan, nan_of_bits}
use Rattle.replay_rates.proofs.single.Goals as goal

pub float_from_bits-result : goal.float_from_bits-result
float_from_bits-result c = not_nan binary32 c.args.bits c.if-bits-gt2139095040.false

pub returns-then-bits-gt2139095040 : goal.returns-then-bits-gt2139095040
unfolding of_bits
returns-then-bits-gt2139095040 c = nan_of_bits binary32 c.args.bits c.if-bits-gt2139095040.true
