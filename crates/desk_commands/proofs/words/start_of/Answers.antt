-- `desk_commands::words::start_of` meets its contract: the invariant, byte by byte.
-- Assumes nothing.
use mathlib.Core.Path.{ap, ◌∙◌}
use Prim.Native.Nat.{◌+◌}
use native.Mathlib.Omega.{arith}
use lib.ListN.{drop}
use Rattle.desk_commands.specs.Words.{start_at}
use Rattle.desk_commands.proofs.Laws.Words.{start_none, start_past, start_end, start_inside}
use Rattle.desk_commands.proofs.words.start_of.Goals.{then-b-eq0, else-b-eq0}
use Rattle.desk_commands.proofs.words.start_of.Goals as goal

pub returns-then-left-eq0 : goal.returns-then-left-eq0
returns-then-left-eq0 c =
    let l = c.loop-i in
    let rest = drop l.i c.args.words.now in
    let e = ap (start_at rest) c.if-left-eq0.true ∙ start_none rest in
    (omega arith, omega (arith, e, l.invariant))

pub loop-i-preserved : goal.loop-i-preserved
loop-i-preserved c =
    let l = c.loop-i in
    let s = c.args.words.now in
    elim c.if-b-eq0.branch [
      | then-b-eq0 w ↦
          let e = start_end s l.i l.left c.loop-i-test.true c.if-left-eq0.false w.if-b-eq0.true in
          let f = ap (start_at (drop (l.i + 1) s)) w.left-is in
          omega (arith, e, f, l.invariant)
      | else-b-eq0 w ↦
          let e = start_inside s l.i l.left c.loop-i-test.true c.if-left-eq0.false w.if-b-eq0.false in
          let f = ap (start_at (drop (l.i + 1) s)) w.left-is in
          omega (arith, e, f, l.invariant)
    ]

pub returns : goal.returns
returns c =
    let l = c.loop-i in
    let e = start_past c.args.words.now l.i l.left c.loop-i-test.false in
    (omega arith, omega (arith, e, l.invariant))
