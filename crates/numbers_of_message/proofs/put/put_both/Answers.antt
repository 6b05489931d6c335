-- `numbers_of_message::put::put_both` meets its contract: the second slice goes where the first ends.
-- Assumes nothing.
use mathlib.Core.Path.{refl, sym}
use native.Mathlib.Omega.{arith}
use lib.ListN.{length, length-append}
use borrow.Author.Tests.{lt-leb, le-leb}
use Rattle.util.proofs.Laws.Splice.{Run, run_part}
use Rattle.numbers_of_message.proofs.Laws.{lt_as, le_as}
use Rattle.numbers_of_message.proofs.put.put_both.Goals as goal

pub returns-then-out-n : goal.returns-then-out-n
returns-then-out-n c =
    let e = length-append c.args.s.now c.args.t.now in
    record { count = sym e; there = rw (lt-leb _ _ (lt_as (sym e) c.if-out-n.true)) }

pub returns : goal.returns
returns c =
    let e = length-append c.args.s.now c.args.t.now in
    let r : Run c.args.out.now c.args.s.now _ (length c.args.s.now) = record { is = c.copy.ensures; len = refl; fits = omega arith } in
    record { count = sym e; there = rw (le-leb _ _ (le_as (sym e) c.if-out-n.false)) (run_part r _ c.args.t.now _ refl (omega arith) c.copy-2.ensures).is }
