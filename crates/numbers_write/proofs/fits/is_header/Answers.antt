-- `numbers_write::fits::is_header` meets its contract: a test for each number, in their order.
-- Assumes nothing.
use mathlib.Core.Path.{◌∙◌}
use Rattle.numbers_to_message.specs.Rows as row
use Rattle.numbers_write.proofs.Laws.{device_fits, device_misfits, fits_16, fits_32, fits_8, misfits_16, misfits_32, misfits_8, other_length, yes_no}
use Rattle.numbers_write.proofs.fits.is_header.Goals as goal

pub returns-then-v-ne9 : goal.returns-then-v-ne9
returns-then-v-ne9 c = other_length c.args.v.now (row.header).types (rw c.requires) c.if-v-ne9.true

pub returns-then-v-gt256 : goal.returns-then-v-gt256
returns-then-v-gt256 c = rw (c.requires, c.if-v-ne9.false, device_misfits _ c.if-v-gt256.true)

pub returns-then-v-gt65535 : goal.returns-then-v-gt65535
returns-then-v-gt65535 c = rw (c.requires, c.if-v-ne9.false, device_fits _ c.if-v-gt256.false, misfits_16 _ c.if-v-gt65535.true)

pub returns-then-v-gt255 : goal.returns-then-v-gt255
returns-then-v-gt255 c = rw (c.requires, c.if-v-ne9.false, device_fits _ c.if-v-gt256.false, fits_16 _ c.if-v-gt65535.false, misfits_8 _ c.if-v-gt255.true)

pub returns-then-v-gt4294967295 : goal.returns-then-v-gt4294967295
returns-then-v-gt4294967295 c = rw (c.requires, c.if-v-ne9.false, device_fits _ c.if-v-gt256.false, fits_16 _ c.if-v-gt65535.false, fits_8 _ c.if-v-gt255.false, misfits_32 _ c.if-v-gt4294967295.true)

pub returns-then-v-gt4294967295-2 : goal.returns-then-v-gt4294967295-2
returns-then-v-gt4294967295-2 c = rw (c.requires, c.if-v-ne9.false, device_fits _ c.if-v-gt256.false, fits_16 _ c.if-v-gt65535.false, fits_8 _ c.if-v-gt255.false, fits_32 _ c.if-v-gt4294967295.false, misfits_32 _ c.if-v-gt4294967295-2.true)

pub returns-then-v-gt4294967295-3 : goal.returns-then-v-gt4294967295-3
returns-then-v-gt4294967295-3 c = rw (c.requires, c.if-v-ne9.false, device_fits _ c.if-v-gt256.false, fits_16 _ c.if-v-gt65535.false, fits_8 _ c.if-v-gt255.false, fits_32 _ c.if-v-gt4294967295.false, fits_32 _ c.if-v-gt4294967295-2.false, misfits_32 _ c.if-v-gt4294967295-3.true)

pub returns-then-v-gt4294967295-4 : goal.returns-then-v-gt4294967295-4
returns-then-v-gt4294967295-4 c = rw (c.requires, c.if-v-ne9.false, device_fits _ c.if-v-gt256.false, fits_16 _ c.if-v-gt65535.false, fits_8 _ c.if-v-gt255.false, fits_32 _ c.if-v-gt4294967295.false, fits_32 _ c.if-v-gt4294967295-2.false, fits_32 _ c.if-v-gt4294967295-3.false, misfits_32 _ c.if-v-gt4294967295-4.true)

pub returns : goal.returns
returns c = rw (c.requires, c.if-v-ne9.false, device_fits _ c.if-v-gt256.false, fits_16 _ c.if-v-gt65535.false, fits_8 _ c.if-v-gt255.false, fits_32 _ c.if-v-gt4294967295.false, fits_32 _ c.if-v-gt4294967295-2.false, fits_32 _ c.if-v-gt4294967295-3.false, fits_32 _ c.if-v-gt4294967295-4.false) (c.is_loop_type.ensures ∙ yes_no _)
