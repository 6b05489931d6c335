-- `desk_print::comma_three` meets its contract. A comma, and then three digits.
-- Assumes nothing.
use Rattle.desk_print.proofs.Laws.{put_put}
use Rattle.desk_print.proofs.comma_three.Goals as goal

pub returns : goal.returns
returns c = put_put c.put.ensures c.three.ensures
