-- `numbers_to_message::fit::is_loop_type` meets its contract: whether the number says a value.
-- Assumes nothing.
use Rattle.numbers_to_message.specs.declared.fit.NumberType.TheVariants.{LoopType}
use Rattle.numbers_to_message.specs.Values.{value}
use Rattle.numbers_to_message.proofs.Options.{some_is}
use Rattle.numbers_to_message.proofs.fit.is_loop_type.Goals as goal

pub returns : goal.returns
returns c = rw (c.is_some.ensures, c.loop_type_of.ensures) (some_is (value LoopType c.args.x))
