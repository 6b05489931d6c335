-- `desk_print::names::quoted` meets its contract. A quote, the name and a quote.
-- Assumes nothing.
use mathlib.Core.Path.{ap}
use Rattle.desk_print.specs.Text.{each, name_char}
use Rattle.desk_print.proofs.Laws.{put_put, put_as}
use Rattle.desk_print.proofs.names.quoted.Goals as goal

pub returns : goal.returns
returns c =
    put_put c.put.ensures (put_put (put_as (ap (each name_char 0) c.without_spaces.ensures) c.put_chars.ensures) c.put-2.ensures)
