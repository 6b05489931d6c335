-- `desk_print::names::put_chars` meets its contract. The invariant: the texts of the bytes so far are put.
-- Assumes nothing.
use lib.ListN.{take}
use Rattle.desk_print.specs.Output.{Put}
use Rattle.desk_print.specs.Text.{each, name_char}
use Rattle.desk_print.proofs.names.put_chars.Given as goal

abbrev pub invariant-loop-b : goal.invariant-loop-b
invariant-loop-b l = Put l.initial.out (each name_char 0 (take l.b-index l.s)) l.out
