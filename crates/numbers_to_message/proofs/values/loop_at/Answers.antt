-- `numbers_to_message::values::loop_at` meets its contract: the loop that the number says, or else the first.
-- Assumes nothing.
use lib.ListN.{get_or}
use Rattle.messages.specs.declared.sample_dump.LoopNumber.TheVariants.{Loop}
use Rattle.numbers_to_message.specs.Values.{loop_value}
use Rattle.numbers_to_message.proofs.Options.{or_is}
use Rattle.numbers_to_message.proofs.values.loop_at.Goals as goal

pub returns : goal.returns
returns c = rw (c.unwrap_or.ensures, c.loop_of.ensures, c.number_at.ensures) (or_is (loop_value c.args.all (get_or c.args.v.now c.args.i 0)) (Loop 0))
