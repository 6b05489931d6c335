-- `desk_text::digits` meets its contract. The invariant: what the digits that are left say after n is what all digits say.
-- Assumes nothing.
use mathlib.Core.Path.{sym, ◌∙◌}
use Rattle.desk_text.proofs.Laws.Numbers.{after_other, after_large, after_digit, after_end}
use Rattle.desk_text.proofs.digits.Goals as goal
use Rattle.desk_text.proofs.digits.Goals.{then-not-is_digit-via-then-not-is_digit, then-not-is_digit-via-else-not-is_digit+then-n-gt1000000000000000}

pub returns-then-not-is_digit : goal.returns-then-not-is_digit
returns-then-not-is_digit c =
    let l = c.loop-b in
    let v = c.is_digit.ensures.value in
    elim c.then-not-is_digit.branch [
      | then-not-is_digit-via-then-not-is_digit w ↦ sym (after_other _ l.n l.b-index c.loop-b-test.true (sym v ∙ w.if-not-is_digit.true)) ∙ l.invariant
      | then-not-is_digit-via-else-not-is_digit+then-n-gt1000000000000000 w ↦ sym (after_large _ l.n l.b-index c.loop-b-test.true (sym v ∙ w.if-not-is_digit.false) w.if-n-gt1000000000000000.true) ∙ l.invariant
    ]

pub loop-b-preserved : goal.loop-b-preserved
loop-b-preserved c =
    let l = c.loop-b in
    after_digit _ l.n l.b-index c.loop-b-test.true (sym c.is_digit.ensures.value ∙ c.if-not-is_digit.false) c.if-n-gt1000000000000000.false ∙ l.invariant

pub returns : goal.returns
returns c =
    let l = c.loop-b in sym (after_end _ l.n l.b-index c.loop-b-test.false) ∙ l.invariant
