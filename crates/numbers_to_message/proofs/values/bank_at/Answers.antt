-- `numbers_to_message::values::bank_at` meets its contract: the value that the number says, or else the one of a misfit.
-- Assumes nothing.
use lib.ListN.{get_or}
use Rattle.numbers_to_message.specs.declared.fit.NumberType.TheVariants.{BankOrNone}
use Rattle.numbers_to_message.specs.Values.{value}
use Rattle.numbers_to_message.specs.Fits.{misfit}
use Rattle.numbers_to_message.proofs.Options.{or_is}
use Rattle.numbers_to_message.proofs.values.bank_at.Goals as goal

pub returns : goal.returns
returns c = rw (c.unwrap_or.ensures, c.bank_of.ensures, c.number_at.ensures) (or_is (value BankOrNone (get_or c.args.v.now c.args.i 0)) (misfit BankOrNone))
