-- `desk_print::output::begin_line` meets its contract. The name and a colon are put.
-- Assumes nothing.
use Rattle.desk_print.proofs.Laws.{put_put}
use Rattle.desk_print.proofs.output.begin_line.Goals as goal

pub returns : goal.returns
returns c = put_put c.flush.ensures.put (put_put c.path.ensures c.put.ensures)
