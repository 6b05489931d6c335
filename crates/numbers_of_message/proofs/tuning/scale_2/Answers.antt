-- `numbers_of_message::tuning::scale_2` meets its contract: the closure answers the number of each value.
-- Assumes nothing.
use lib.IntN.{pos}
use borrow.Author.Rules.{rules}
use Rattle.numbers_to_message.specs.Values.{signed_number_of}
use Rattle.numbers_of_message.proofs.Mapped.{map_is}
use Rattle.numbers_of_message.proofs.tuning.scale_2.Goals as goal

pub returns : goal.returns
returns c = map_is _ signed_number_of (λ p q x y t. search rules) _ c.args.s c.map.result (pos 0) 0 12 c.map.ensures.items
