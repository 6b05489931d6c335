-- `pasoreum::pasoreum_walk` meets its contract: the walk for the kind that the number names.
-- Assumes nothing.
use mathlib.Core.Path.{refl, sym, ◌∙◌}
use Rattle.pasoreum.proofs.Laws.{walked_as}
use Rattle.pasoreum.proofs.pasoreum_walk.Goals as goal

pub returns-in-Some : goal.returns-in-Some
returns-in-Some c = let w = c.walk_for in
    let t = walked_as (sym c.kind_of.ensures ∙ c.in-Some.is) c.args.stream.now c.args.index.now _ _ _ w.ensures.number w.ensures.value w.ensures.output in
    record { number = t.0; value = t.1.0; output = t.1.1 }

pub returns-in-None : goal.returns-in-None
returns-in-None c =
    let t = walked_as (sym c.kind_of.ensures ∙ c.in-None.is) c.args.stream.now c.args.index.now _ _ _ refl refl refl in
    record { number = t.0; value = t.1.0; output = t.1.1 }
