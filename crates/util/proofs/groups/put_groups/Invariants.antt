-- `util::groups::put_groups` meets its contract. The invariant: the groups that are stored, and those of what is left of the value, are all groups.
-- Assumes nothing.
use Rattle.std.proofs.Common.{◌≡◌, ◌-◌, ◌++◌, take}
use Rattle.util.specs.Groups.{groups}
use Rattle.util.proofs.groups.put_groups.Given as goal

abbrev pub invariant-loop-b : goal.invariant-loop-b
invariant-loop-b g l = take l.b-index l.b-items ++ groups (g.row.N - l.b-index) l.rest ≡ groups g.row.N l.initial.rest
