-- `writer::Admitted::sizes` meets its contract: admitted contents have the size that is reckoned, and are short.
-- Assumes nothing.
use mathlib.Core.Path.{sym, ap, ◌∙◌}
use native.Mathlib.Omega.{arith}
use Rattle.messages.specs.Layouts.{summed}
use Rattle.write_fronts.proofs.Laws.{front_small}
use Rattle.write_lists.proofs.Laws.Sizes.{length_part}
use Rattle.writer.proofs.Laws.Lengths.{part_small}
use Rattle.writer.proofs.Admitted.sizes.Goals as goal

pub part_size-part-requires : goal.part_size-part-requires
part_size-part-requires c =
    let a = c.self.inside in
    omega (arith, part_small a.m a.text.now a.entries.now c.self.invariant)

pub returns : goal.returns
returns c =
    let a = c.self.inside in
    let p = c.part_size-part in
    rw (← c.self.view_is) (record {
      front_is = c.front_size-front.ensures;
      part_is = p.ensures ∙ sym (length_part a.m a.text.now a.entries.now c.self.invariant);
      sum_is = c.is_summed-sum.ensures ∙ ap summed c.head.ensures;
      front_few = omega (arith, c.front_size-front.ensures, front_small a.m);
      part_few = omega (arith, p.ensures, part_small a.m a.text.now a.entries.now c.self.invariant);
    })
