-- `rates::scaled_cents` meets its contract: it divides and multiplies what `hold_cents` returns.
-- Assumes nothing.
use mathlib.Core.Path.{ap}
use lib.Ieee.{Float, binary32, mul, div, of_bits}
use Rattle.rates.specs.Cents.{hundred, full, scaled_of}
use Rattle.rates.proofs.scaled_cents.Goals as goal

pub returns : goal.returns
unfolding of_bits scaled_of
returns c = ap (λ (z : Float). mul binary32 (div binary32 z hundred) full) c.hold_cents.ensures
