-- `desk_print::names::put_path_char` meets its contract. By the test of the byte.
-- Assumes nothing.
use Rattle.desk_print.proofs.Laws.{put_put, put_as}
use Rattle.desk_print.proofs.Texts.{path_escaped}
use mathlib.Core.Path.{refl}
use Rattle.desk_print.proofs.names.put_path_char.Goals as goal

pub returns-then-is_control : goal.returns-then-is_control
returns-then-is_control c =
    put_as (path_escaped c.args.before refl c.is_control.ensures c.if-is_control.true) (put_put c.put.ensures c.hex.ensures)
