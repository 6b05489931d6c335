-- `desk_print::names::put_chars` meets its contract. The invariant: the texts of the bytes so far are put.
-- Assumes nothing.
use native.Mathlib.Omega.{arith}
use Rattle.desk_print.specs.Text.{name_char}
use Rattle.desk_print.proofs.Texts.{each_begin, each_turn, each_end}
use Rattle.desk_print.proofs.names.put_chars.Goals as goal

pub loop-b-init : goal.loop-b-init
loop-b-init c = each_begin name_char c.args.s.now c.args.out.now

pub loop-b-preserved : goal.loop-b-preserved
loop-b-preserved c =
    let l = c.loop-b in
    each_turn name_char c.args.s.now l.b-index (omega arith) l.invariant c.put_char.ensures

pub returns : goal.returns
returns c = each_end name_char c.args.s.now c.loop-b.b-index (omega arith) c.loop-b.invariant
