-- `numbers_to_message::number::i8_of` meets its contract: what std converts is of the range.
-- Assumes nothing.
use mathlib.Core.Path.{◌∙◌, refl}
use native.Mathlib.Omega.{arith}
use mir.Syntax.{w8}
use borrow.Author.Rules.{rules}
use Rattle.numbers_to_message.proofs.Options.{signed_answer}
use Rattle.numbers_to_message.proofs.number.i8_of.Goals as goal

pub returns : goal.returns
returns c = c.ok.ensures.value ∙ signed_answer w8 128 c.args.x refl (omega arith) (omega arith) c.try_from.result _ c.cast_signed.result (search rules) c.cast_signed.ensures c.try_from.ensures
