-- `desk_text::cents::joined` meets its contract: the tests are those of the definition.
-- Assumes nothing.
use mathlib.Core.Bool.{Bool, true, false, ◌&&◌}
use Prim.Native.Nat.{ℕ}
use lib.Dec.{eqb}
use lib.ListN.{length}
use mathlib.Core.Path.{◌≡◌, refl, sym, ap, ◌∙◌}
use Rattle.std.specs.Prelude.{Option, Some}
use Rattle.util.specs.Pick.{pick}
use Rattle.desk_text.specs.Cents.{joined_of}
use Rattle.desk_text.proofs.Laws.Digits.{joined_value}
use Rattle.desk_text.proofs.cents.joined.Goals as goal
use Rattle.desk_text.proofs.cents.joined.Goals.{then-is_empty, else-is_empty}

no_right : (a : Bool) (x y : Option ℕ) → y ≡ pick (a && false) x y
no_right true x y = refl
no_right false x y = refl

pub returns : goal.returns
unfolding joined_of
returns c =
    rw (sym c.are_digits.ensures ∙ c.if-not-are_digits.false, sym c.are_digits-else-not-are_digits.ensures ∙ c.if-not-are_digits-2.false)
    (let v = ap Some (joined_value _ _ _ _ c.with_digits.ensures c.with_digits-2.ensures) in
    elim c.if-is_empty.branch [
      | then-is_empty w ↦ rw (sym w.is_empty-then-is_empty.ensures ∙ sym w.value-is ∙ c.if-is_empty-2.false) (v ∙ no_right (eqb (length c.args.whole.now) 0) _ _)
      | else-is_empty w ↦ rw (sym c.is_empty.ensures ∙ w.if-is_empty.false) v
    ])
