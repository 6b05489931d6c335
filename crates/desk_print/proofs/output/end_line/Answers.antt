-- `desk_print::output::end_line` meets its contract. Nothing is gathered afterwards.
-- Assumes nothing.
use mathlib.Core.Path.{sym, ap, ◌∙◌}
use Rattle.desk_print.specs.Output.{Gathering}
use Rattle.desk_print.proofs.Laws.{flushed}
use Rattle.desk_print.proofs.output.end_line.Goals as goal

pub returns : goal.returns
returns c = flushed c.clear.ensures (λ s. c.put.ensures.sound (sym (ap (λ (o : Gathering). o.is_failed) c.out.view_is) ∙ s))
