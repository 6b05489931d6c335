-- `rates::digits_above` meets its contract: where 64 places or more are cut, nothing is left.
-- Assumes nothing.
use Rattle.rates.proofs.Bits.{all_cut}
use Rattle.rates.proofs.digits_above.Goals as goal

pub returns-else-unit-exponent-lt64 : goal.returns-else-unit-exponent-lt64
returns-else-unit-exponent-lt64 c = all_cut c.args.bits c.args.unit c.if-unit-exponent-lt64.false
