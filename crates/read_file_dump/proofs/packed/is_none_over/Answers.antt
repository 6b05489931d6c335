-- `read_file_dump::packed::is_none_over` meets its contract: the last group tells.
-- Assumes nothing.
use mathlib.Core.Path.{sym}
use native.Mathlib.Omega.{arith}
use Rattle.read_file_dump.proofs.Laws.Packed.{over_whole, over_lone, over_spare}
use Rattle.read_file_dump.proofs.packed.is_none_over.Goals as goal

pub returns-in-0 : goal.returns-in-0
returns-in-0 c = sym (over_whole c.args.s.now c.requires c.in-0.is)

pub returns-in-1 : goal.returns-in-1
returns-in-1 c = sym (over_lone c.args.s.now c.requires c.in-1.is)

pub returns-in_default : goal.returns-in_default
returns-in_default c = rw c.low_bits.ensures (sym (over_spare c.args.s.now c.requires (λ e. omega arith) (λ e. omega arith)))
