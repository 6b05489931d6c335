-- `numbers_write::fits::is_one_byte` meets its contract: a test for each number, in their order.
-- Assumes nothing.
use mathlib.Core.List.{[], ◌∷◌}
use lib.ListN.{get_or}
use Rattle.numbers_to_message.specs.declared.fit.NumberType.TheVariants.{U8}
use Rattle.numbers_write.proofs.Laws.{below_8, device_fits, device_misfits, other_length}
use Rattle.numbers_write.proofs.fits.is_one_byte.Goals as goal

pub returns-then-v-ne3 : goal.returns-then-v-ne3
returns-then-v-ne3 c = other_length c.args.v.now (U8 ∷ []) c.requires c.if-v-ne3.true

pub returns-then-v-gt256 : goal.returns-then-v-gt256
returns-then-v-gt256 c = rw (c.requires, c.if-v-ne3.false, device_misfits _ c.if-v-gt256.true)

pub returns : goal.returns
returns c = rw (c.requires, c.if-v-ne3.false, device_fits _ c.if-v-gt256.false) (below_8 (get_or c.args.v.now 2 0))
