-- `numbers_to_message::fit::is_i16` meets its contract: whether the number says a value.
-- Assumes nothing.
use Rattle.numbers_to_message.specs.declared.fit.NumberType.TheVariants.{I16}
use Rattle.numbers_to_message.specs.Values.{value}
use Rattle.numbers_to_message.proofs.Options.{some_is}
use Rattle.numbers_to_message.proofs.fit.is_i16.Goals as goal

pub returns : goal.returns
returns c = rw (c.is_some.ensures, c.i16_of.ensures) (some_is (value I16 c.args.x))
