-- `desk_commands::words::end_of` meets its contract: what stands before the first 0 is the first word.
-- Assumes nothing.
use mathlib.Core.Path.{sym, ap, ◌∙◌}
use mathlib.Core.Bool.{not}
use Prim.Native.Nat.{ℕ, ◌-◌}
use native.Mathlib.Omega.{arith}
use lib.Dec.{eqb}
use lib.ListN.{length, drop, length-drop}
use lib.Seq.{take_all}
use Rattle.std.specs.List.{prefix_len}
use Rattle.desk_commands.proofs.Laws.Words.{first_is}
use Rattle.desk_commands.proofs.words.end_of.Goals as goal

pub returns : goal.returns
returns c =
    let s = c.args.words.now in
    let rest = drop c.args.start s in
    let n = c.before_end.ensures in
    let whole = take_all (length s - c.args.start) rest (omega (arith, length-drop c.args.start s)) in
    let e = ap (prefix_len (λ (b : ℕ). not (eqb b 0))) whole ∙ sym (first_is rest) in
    (omega arith, omega (arith, n.within, ap length whole, length-drop c.args.start s), omega (arith, n.counted, e))
