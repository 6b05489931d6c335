-- `desk_text::digits` meets its contract. The invariant: what the digits that are left say after n is what all digits say.
-- Assumes nothing.
use mathlib.Core.Path.{◌≡◌}
use lib.ListN.{drop}
use Rattle.desk_text.specs.Decimal.{after}
use Rattle.desk_text.proofs.digits.Given as goal

abbrev pub invariant-loop-b : goal.invariant-loop-b
invariant-loop-b l = after l.n (drop l.b-index l.s) ≡ after 0 l.s
