-- `numbers_read::put_front` meets its contract: four stores from the start.
-- Assumes nothing.
use mathlib.Core.List.{[], ◌∷◌}
use native.Mathlib.Omega.{arith}
use lib.ListN.{length-set}
use Rattle.util.proofs.Laws.Splice.{sets_front}
use Rattle.numbers_read.proofs.put_front.Goals as goal

pub bounds-answer-1 : goal.bounds-answer-1
bounds-answer-1 c = simp length-set (omega arith)

pub bounds-answer-2 : goal.bounds-answer-2
bounds-answer-2 c = simp length-set (omega arith)

pub bounds-answer-3 : goal.bounds-answer-3
bounds-answer-3 c = simp length-set (omega arith)

pub returns : goal.returns
returns c =
    let r = c.args.reading in
    sets_front (c.args.count ∷ r.from ∷ r.len ∷ r.places ∷ []) c.args.answer.now (omega (arith, c.requires))
