-- `desk_print::four` meets its contract. A digit, and then three.
-- Assumes nothing.
use Rattle.desk_print.proofs.Laws.{put_put, put_as}
use Rattle.desk_print.proofs.Texts.{four_as}
use Rattle.desk_print.proofs.four.Goals as goal

pub returns : goal.returns
returns c = put_as (four_as c.args.n c.digit.ensures) (put_put c.put.ensures c.three.ensures)
