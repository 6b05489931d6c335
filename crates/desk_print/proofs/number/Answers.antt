-- `desk_print::number` meets its contract. The fewest digits that were found are the text of the number.
-- Assumes nothing.
use mathlib.Core.Path.{◌∙◌}
use native.Mathlib.Omega.{arith}
use Rattle.desk_print.proofs.Laws.{put_as}
use Rattle.desk_print.proofs.Texts.{decimal_is}
use Rattle.desk_print.proofs.number.Goals as goal

pub returns : goal.returns
returns c =
    let d = c.decimal-k in
    put_as (d.ensures.digits ∙ decimal_is d.result c.args.n (omega (arith, c.ranges.n)) d.ensures.len) c.put.ensures
