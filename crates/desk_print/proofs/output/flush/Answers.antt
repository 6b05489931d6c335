-- `desk_print::output::flush` meets its contract. Nothing is gathered afterwards.
-- Assumes nothing.
use mathlib.Core.Path.{ap}
use Rattle.desk_print.specs.Output.{Gathering}
use Rattle.desk_print.proofs.Laws.{flushed_after}
use Rattle.desk_print.proofs.output.flush.Goals as goal

pub returns : goal.returns
returns c = flushed_after c.write_out.ensures c.clear.ensures (ap (λ (o : Gathering). o.is_failed) c.out.view_is)
