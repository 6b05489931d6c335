-- `desk_print::output::write_out` meets its contract. A write that fails is remembered.
-- Assumes nothing.
use Rattle.desk_print.proofs.Laws.{failed_not_sound}
use Rattle.desk_print.proofs.output.write_out.Goals as goal

pub returns-then-not-write_gathered : goal.returns-then-not-write_gathered
returns-then-not-write_gathered c = λ s. absurd (failed_not_sound c.fail.ensures s)
