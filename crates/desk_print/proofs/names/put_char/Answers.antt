-- `desk_print::names::put_char` meets its contract. By the tests of the byte.
-- Assumes nothing.
use Rattle.desk_print.proofs.Laws.{put_put, put_as}
use Rattle.desk_print.proofs.Texts.{char_low, char_high}
use Rattle.desk_print.proofs.names.put_char.Goals as goal
use Rattle.desk_print.proofs.names.put_char.Goals.{then-b-lt32-via-then-b-lt32, then-b-lt32-via-else-b-lt32+then-b-gt126}

pub returns-then-b-lt32 : goal.returns-then-b-lt32
returns-then-b-lt32 c =
    let p = put_put c.put.ensures c.hex.ensures in
    elim c.then-b-lt32.branch [
      | then-b-lt32-via-then-b-lt32 w ↦ put_as (char_low 0 c.args.b w.if-b-lt32.true) p
      | then-b-lt32-via-else-b-lt32+then-b-gt126 w ↦ put_as (char_high 0 c.args.b w.if-b-lt32.false w.if-b-gt126.true) p
    ]
