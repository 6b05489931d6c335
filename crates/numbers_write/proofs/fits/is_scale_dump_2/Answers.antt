-- `numbers_write::fits::is_scale_dump_2` meets its contract: a test for each number, in their order.
-- Assumes nothing.
use native.Mathlib.Omega.{arith}
use lib.ListN.{length}
use borrow.Author.Tests.{lt-ltb, le-ltb}
use Rattle.numbers_to_message.specs.Rows as row
use Rattle.numbers_write.proofs.Laws.{device_fits, device_misfits, fits_8, misfits_8, other_length}
use Rattle.numbers_write.proofs.fits.is_scale_dump_2.Goals as goal

pub returns-then-v-ne16 : goal.returns-then-v-ne16
returns-then-v-ne16 c = other_length c.args.v.now (row.scale_dump_2).types (rw c.requires) c.if-v-ne16.true

pub returns-then-v-gt256 : goal.returns-then-v-gt256
returns-then-v-gt256 c = rw (c.requires, c.if-v-ne16.false, device_misfits _ c.if-v-gt256.true)

pub returns-then-v-gt255 : goal.returns-then-v-gt255
returns-then-v-gt255 c = rw (c.requires, c.if-v-ne16.false, device_fits _ c.if-v-gt256.false, misfits_8 _ c.if-v-gt255.true)

pub returns-then-v-gt255-2 : goal.returns-then-v-gt255-2
returns-then-v-gt255-2 c = rw (c.requires, c.if-v-ne16.false, device_fits _ c.if-v-gt256.false, fits_8 _ c.if-v-gt255.false, misfits_8 _ c.if-v-gt255-2.true)

pub returns : goal.returns
returns c =
    let n = length c.args.v.now in
    let e = c.if-v-ne16.false in
    rw (c.requires, le-ltb n 2 (omega (arith, e)), device_fits _ c.if-v-gt256.false, lt-ltb 2 n (omega (arith, e)), fits_8 _ c.if-v-gt255.false, lt-ltb 3 n (omega (arith, e)), fits_8 _ c.if-v-gt255-2.false)
    c.are_i16.ensures
