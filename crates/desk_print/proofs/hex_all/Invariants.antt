-- `desk_print::hex_all` meets its contract. The invariant: the texts of the bytes so far are put.
-- Assumes nothing.
use lib.ListN.{take}
use Rattle.desk_print.specs.Output.{Put}
use Rattle.desk_print.specs.Text.{each, spaced_hex}
use Rattle.desk_print.proofs.hex_all.Given as goal

abbrev pub invariant-loop-b : goal.invariant-loop-b
invariant-loop-b l = Put l.initial.out (each spaced_hex 0 (take l.b-index l.s)) l.out
