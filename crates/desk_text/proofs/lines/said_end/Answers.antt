-- `desk_text::lines::said_end` meets its contract. The invariant: what is left from i on says where the whole ends.
-- Assumes nothing.
use mathlib.Core.Path.{sym, ap, ◌∙◌}
use mathlib.Core.Bool.{Bool}
use Prim.Native.Nat.{◌+◌}
use native.Mathlib.Omega.{arith}
use lib.ListN.{drop}
use Rattle.desk_text.specs.Lines.{said_length}
use Rattle.desk_text.proofs.Laws.Spans.{said_past, said_stop, said_more}
use Rattle.desk_text.proofs.lines.said_end.Goals as goal

pub returns-then-is_comment : goal.returns-then-is_comment
returns-then-is_comment c =
    let l = c.loop-i in
    let s = c.args.line.now in
    let e = said_stop l.may_begin s l.i c.loop-i-test.true (sym c.is_comment.ensures ∙ c.if-is_comment.true) in
    record { value = omega (arith, e, l.invariant); bound = omega arith }

pub loop-i-preserved : goal.loop-i-preserved
loop-i-preserved c =
    let l = c.loop-i in
    let s = c.args.line.now in
    let e = said_more l.may_begin s l.i c.loop-i-test.true (sym c.is_comment.ensures ∙ c.if-is_comment.false) in
    let f = ap (λ (b : Bool). said_length b (drop (l.i + 1) s)) c.is_blank-may_begin.ensures in
    omega (arith, e, f, l.invariant)

pub returns : goal.returns
returns c =
    let l = c.loop-i in
    let s = c.args.line.now in
    let e = said_past l.may_begin s l.i c.loop-i-test.false in
    record { value = omega (arith, e, l.invariant); bound = omega arith }
