-- `numbers_to_message::fit::fits_row` meets its contract: a type without a number does not fit.
-- Assumes nothing.
use mathlib.Core.Path.{◌∙◌}
use native.Mathlib.Omega.{arith}
use Rattle.numbers_to_message.proofs.Laws.{turn_short}
use Rattle.numbers_to_message.proofs.fit.fits_row.Goals as goal

pub returns-then-v-i : goal.returns-then-v-i
returns-then-v-i c = turn_short c.args.types.now c.args.v.now c.loop-i.i (omega arith) (omega arith) ∙ c.loop-i.invariant
