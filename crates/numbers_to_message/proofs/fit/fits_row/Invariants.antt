-- `numbers_to_message::fit::fits_row` meets its contract. The invariant: the numbers that are left fit the types that are left just where all fit all.
-- Assumes nothing.
use mathlib.Core.Path.{◌≡◌}
use Prim.Native.Nat.{◌+◌}
use lib.ListN.{drop}
use Rattle.numbers_to_message.specs.Fits.{fits}
use Rattle.numbers_to_message.proofs.fit.fits_row.Given as goal

abbrev pub invariant-loop-i : goal.invariant-loop-i
invariant-loop-i l = fits (drop l.i l.types) l.v (l.i + 2) ≡ fits l.types l.v 2
