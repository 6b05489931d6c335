-- `numbers_to_message::values::i16_at` meets its contract: the value that the number says, or else the one of a misfit.
-- Assumes nothing.
use mathlib.Core.Path.{◌≡◌}
use lib.ListN.{get_or}
use mir.Syntax.{w16}
use mir.Val.{of_z, to_z}
use borrow.Author.Rules.{rules}
use Rattle.numbers_to_message.specs.declared.fit.NumberType.TheVariants.{I16}
use Rattle.numbers_to_message.specs.Values.{value}
use Rattle.numbers_to_message.specs.Fits.{misfit}
use Rattle.numbers_to_message.proofs.Options.{or_is}
use Rattle.numbers_to_message.proofs.values.i16_at.Goals as goal

pub returns : goal.returns
returns c =
    let z : to_z w16 (of_z w16 c.unwrap_or.result) ≡ c.unwrap_or.result = search rules in
    rw (z, c.unwrap_or.ensures, c.i16_of.ensures, c.number_at.ensures) (or_is (value I16 (get_or c.args.v.now c.args.i 0)) (misfit I16))
