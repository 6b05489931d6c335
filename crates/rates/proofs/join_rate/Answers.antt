-- `rates::join_rate` meets its contract: its sum is the pair's number of 2^28ths, rounded once.
-- Assumes nothing.
use mathlib.Core.Path.{◌∙◌}
use lib.Ieee.{of_bits}
use Rattle.rates.proofs.Join.{one_rounding, joined}
use Rattle.rates.proofs.join_rate.Goals as goal

pub returns : goal.returns
unfolding of_bits
returns c =
    let w = c.args.whole in
    let f = c.args.fraction in
    one_rounding w f c.ranges.whole.fits c.ranges.fraction.fits ∙ joined w f
