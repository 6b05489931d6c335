-- `numbers_write::fits::are_i16` meets its contract: it tests each number from the fifth on.
-- Assumes nothing.
use Rattle.std.proofs.Common.{◌-◌, rules, arith, length, drop, take_all}
use Rattle.std.proofs.iter.runs.Made.{chains}
use lib.ListN.{length-drop}
use Rattle.numbers_to_message.specs.declared.fit.NumberType.TheVariants.{I16}
use Rattle.numbers_write.proofs.Laws.{all_fit}
use Rattle.numbers_write.proofs.fits.are_i16.Goals as goal

pub returns : goal.returns
returns c =
    let v = c.args.v.now in
    all_fit v I16 12 4 _ _ (take_all (length v - 4) (drop 4 v) (omega (arith, length-drop 4 v))) (omega (arith, c.requires)) (λ e k h. search (rules, chains)) (λ e. search (rules, chains))
