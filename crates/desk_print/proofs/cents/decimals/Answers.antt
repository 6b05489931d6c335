-- `desk_print::cents::decimals` meets its contract. A sign, the whole part, a point and four digits.
-- Assumes nothing.
use Rattle.desk_print.proofs.Laws.{put_put}
use Rattle.desk_print.proofs.cents.decimals.Goals as goal

pub returns : goal.returns
returns c = put_put c.put_sign.ensures (put_put c.number.ensures (put_put c.put.ensures c.four.ensures))
