-- `walk::past` meets its contract: the last bytes, by what the library finds.
-- Assumes nothing.
use native.Mathlib.Omega.{arith}
use borrow.Author.Rules.{rules}
use Rattle.std.proofs.lemmas.Iterator.{first_from_Range}
use Rattle.walk.proofs.Laws.Runs.{run_found}
use Rattle.walk.proofs.past.Goals as goal

pub returns : goal.returns
returns g c p h =
    omega (
      arith,
      c.unwrap_or.ensures,
      c.loop-i.invariant.1 p h,
      run_found p c.args.s.now c.loop-i.i c.find.result c.loop-i.invariant.0
          (first_from_Range _ _ _ _ _ _ c.find.ensures.ran (λ x q k. search (rules, h)) (λ x q k. search (rules, h))),
    )
