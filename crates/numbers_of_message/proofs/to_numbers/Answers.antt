-- `numbers_of_message::to_numbers` meets its contract: the numbers are those that are put for the number of the device.
-- Assumes nothing.
use mathlib.Core.Path.{sym}
use Prim.Native.Nat.{ℕ}
use Rattle.numbers_of_message.specs.Numbers.{numbers, coded, numbers_of}
use Rattle.numbers_of_message.proofs.Laws.{put_of}
use Rattle.numbers_of_message.proofs.to_numbers.Goals as goal

pub returns : goal.returns
unfolding numbers_of
returns c =
    let p = put_of (λ (n : ℕ). numbers n (coded c.args.m)) (sym c.device_number-d.ensures) c.put_message.ensures in
    (p.count, p.there)
