-- `desk_print::output::send` meets its contract. Nothing is gathered before and after.
-- Assumes nothing.
use mathlib.Core.Path.{sym, ◌∙◌}
use Rattle.desk_print.proofs.Laws.{put_failed, put_empty, true_false, failed_not_sound}
use Rattle.desk_print.proofs.output.send.Goals as goal

pub returns-then-is_failed : goal.returns-then-is_failed
returns-then-is_failed c = put_failed (λ s. true_false (sym c.if-is_failed.true ∙ c.is_failed.ensures ∙ s))

pub returns-then-not-write_all : goal.returns-then-not-write_all
returns-then-not-write_all c = put_failed (failed_not_sound c.fail.ensures)

pub returns-else-not-write_all : goal.returns-else-not-write_all
returns-else-not-write_all c = put_empty _ c.requires (λ s. s)
