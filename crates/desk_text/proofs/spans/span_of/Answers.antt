-- `desk_text::spans::span_of` meets its contract: the place that the search finds, or the length.
-- Assumes nothing.
use mathlib.Core.Path.{ap, ◌∙◌}
use native.Mathlib.Omega.{arith}
use lib.ListN.{length}
use borrow.Author.Rules.{rules}
use Rattle.std.proofs.lemmas.Iterator.{YieldsList-from_slice}
use Rattle.std.proofs.lemmas.Iterator.Search.{position_from_yields_List}
use Rattle.desk_text.proofs.Laws.Spans.{span_found, found_within}
use Rattle.desk_text.proofs.spans.span_of.Goals as goal

pub returns : goal.returns
returns g c = record {
  bound = let h = found_within c.position.result _ (length c.args.s.now) (ap length c.iter.ensures.rest) c.position.ensures.bound in omega (arith, c.unwrap_or.ensures, h);
  value = λ p h.
      c.unwrap_or.ensures
      ∙ span_found p c.args.s.now c.position.result
      (position_from_yields_List p _ _ _ c.position.ensures.ran (YieldsList-from_slice c.args.s.now cc) (λ x b q k. (search rules, h x.now b (search rules))));
}
