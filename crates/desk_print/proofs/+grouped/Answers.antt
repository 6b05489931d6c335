-- `desk_print::grouped` meets its contract. A number below a thousand, or the thousands, a comma and three digits.
-- Assumes nothing.
use native.Mathlib.Omega.{arith}
use Rattle.desk_print.proofs.Laws.{put_put, put_as}
use Rattle.desk_print.proofs.Texts.{commas_few, commas_more}
use Rattle.desk_print.proofs.+grouped.Goals as goal

pub returns-then-n-lt1000 : goal.returns-then-n-lt1000
returns-then-n-lt1000 t c = put_as (commas_few c.args.n c.if-n-lt1000.true) c.number.ensures

pub returns : goal.returns
returns t c = put_as (commas_more c.args.n c.if-n-lt1000.false (omega (arith, c.ranges.n))) (put_put c.grouped.ensures c.comma_three.ensures)
