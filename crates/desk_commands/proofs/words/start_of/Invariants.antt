-- `desk_commands::words::start_of` meets its contract. The invariant: the word of the number begins where, from i on, the word of what is left of the number begins.
-- Assumes nothing.
use mathlib.Core.Path.{◌≡◌}
use Prim.Native.Nat.{◌+◌}
use lib.ListN.{drop}
use Rattle.desk_commands.specs.Words.{start_at}
use Rattle.desk_commands.proofs.words.start_of.Given as goal

abbrev pub invariant-loop-i : goal.invariant-loop-i
invariant-loop-i l = l.i + start_at (drop l.i l.words) l.left ≡ start_at l.words l.number
