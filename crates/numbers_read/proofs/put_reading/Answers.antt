-- `numbers_read::put_reading` meets its contract: the message behind four numbers.
-- Assumes nothing.
use mathlib.Core.Path.{ap, ◌∙◌}
use mathlib.Core.List.{◌∷◌}
use Prim.Native.Nat.{ℕ}
use native.Mathlib.Omega.{arith}
use Rattle.util.specs.Splice.{overwritten}
use Rattle.numbers_of_message.specs.Numbers.{numbers_of}
use Rattle.numbers_read.proofs.Laws.{behind_length, behind_four}
use Rattle.numbers_read.proofs.Counts.{at_most_16}
use Rattle.numbers_read.proofs.put_reading.Goals as goal

pub put_front-requires : goal.put_front-requires
put_front-requires c =
    let r = c.args.reading in
    omega (arith, c.requires, behind_length c.args.answer.now _ (numbers_of r.device r.m) c.requires (at_most_16 r.device r.m) c.to_numbers-count.ensures.1)

pub returns : goal.returns
returns c =
    let r = c.args.reading in
    let ns = numbers_of r.device r.m in
    c.put_front.ensures
    ∙ behind_four c.args.answer.now _ ns c.requires (at_most_16 r.device r.m) c.to_numbers-count.ensures.1 _ _ _ _
    ∙ ap (λ (n : ℕ). overwritten (n ∷ r.from ∷ r.len ∷ r.places ∷ ns) c.args.answer.now) c.to_numbers-count.ensures.0
