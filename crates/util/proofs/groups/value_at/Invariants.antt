-- `util::groups::value_at` meets its contract. The invariant: v is the value of the groups from k on.
-- Assumes nothing.
use Rattle.std.proofs.Common.{◌≡◌, ◌≤◌, ◌-◌, ◌*◌, ◌^◌, take, drop}
use Rattle.util.specs.Groups.{value}
use Rattle.util.proofs.groups.value_at.Given as goal

abbrev pub invariant-loop-k : goal.invariant-loop-k
invariant-loop-k g l = record { is : l.v ≡ value (take (g.row.N - l.k) (drop l.k l.rest)); most : 127 * l.v ≤ 255 * (128 ^ (g.row.N - l.k) - 1) }
