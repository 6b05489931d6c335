-- `numbers_read::put_numbered` meets its contract: seven stores from the start.
-- Assumes nothing.
use mathlib.Core.Path.{ap, ◌∙◌}
use mathlib.Core.List.{[], ◌∷◌}
use Prim.Native.Nat.{ℕ}
use native.Mathlib.Omega.{arith}
use lib.ListN.{length-set}
use Rattle.util.specs.Splice.{overwritten}
use Rattle.util.proofs.Laws.Splice.{sets_front}
use Rattle.numbers_to_message.specs.Values.{device_number_of}
use Rattle.numbers_read.proofs.put_numbered.Goals as goal

pub bounds-answer-1 : goal.bounds-answer-1
bounds-answer-1 c = simp length-set (omega arith)

pub bounds-answer-2 : goal.bounds-answer-2
bounds-answer-2 c = simp length-set (omega arith)

pub bounds-answer-3 : goal.bounds-answer-3
bounds-answer-3 c = simp length-set (omega arith)

pub bounds-answer-4 : goal.bounds-answer-4
bounds-answer-4 c = simp length-set (omega arith)

pub bounds-answer-5 : goal.bounds-answer-5
bounds-answer-5 c = simp length-set (omega arith)

pub bounds-answer-6 : goal.bounds-answer-6
bounds-answer-6 c = simp length-set (omega arith)

pub returns : goal.returns
returns c = let l = c.args.answer.now in
    sets_front (3 ∷ 0 ∷ 0 ∷ 0 ∷ c.args.code ∷ c.device_number-d.result ∷ c.args.packet ∷ []) l (omega (arith, c.requires))
    ∙ ap (λ (v : ℕ). overwritten (3 ∷ 0 ∷ 0 ∷ 0 ∷ c.args.code ∷ v ∷ c.args.packet ∷ []) l) (c.device_number-d.ensures ∙ ap device_number_of c.from.ensures)
