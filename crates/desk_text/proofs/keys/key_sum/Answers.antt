-- `desk_text::keys::key_sum` meets its contract: a sum that is too large for a number is above every key.
-- Assumes nothing.
use mathlib.Core.Path.{◌∙◌}
use native.Mathlib.Omega.{arith}
use Rattle.desk_text.proofs.Laws.KeyNames.{above_keys}
use Rattle.desk_text.proofs.keys.key_sum.Goals as goal

pub returns-in_err-checked_mul : goal.returns-in_err-checked_mul
returns-in_err-checked_mul c = c.from_residual.ensures ∙ above_keys _ (omega (arith, c.in_err-checked_mul.ensures))

pub returns-in_err-checked_add : goal.returns-in_err-checked_add
returns-in_err-checked_add c = c.from_residual-in_err-checked_add.ensures ∙ above_keys _ (omega (arith, c.in_ok-checked_mul.ensures, c.in_err-checked_add.ensures))

pub returns-in_err-checked_add-2 : goal.returns-in_err-checked_add-2
returns-in_err-checked_add-2 c = c.from_residual-in_err-checked_add-2.ensures ∙ above_keys _ (omega (arith, c.in_ok-checked_mul.ensures, c.in_ok-checked_add.ensures, c.in_err-checked_add-2.ensures))
