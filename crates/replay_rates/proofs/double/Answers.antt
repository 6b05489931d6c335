-- `replay_rates::double` meets its contract: bits above those of infinity are NaN, and the bits that it takes are no NaN's.
-- Assumes nothing.
use lib.Ieee.{binary64, of_bits}
use Rattle.replay_rates.proofs.Numbers.{not_nan, nan_of_bits}
use Rattle.replay_rates.proofs.double.Goals as goal

pub float_from_bits-result : goal.float_from_bits-result
float_from_bits-result c = not_nan binary64 c.args.bits c.if-bits-gt9218868437227405312.false

pub returns-then-bits-gt9218868437227405312 : goal.returns-then-bits-gt9218868437227405312
unfolding of_bits
returns-then-bits-gt9218868437227405312 c = nan_of_bits binary64 c.args.bits c.if-bits-gt9218868437227405312.true
