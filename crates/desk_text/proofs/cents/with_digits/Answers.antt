-- `desk_text::cents::with_digits` meets its contract. The invariant: the digits that are left behind v say what all digits say, up to the most.
-- Assumes nothing.
use mathlib.Core.Path.{◌≡◌, sym, ap, ◌∙◌}
use Prim.Native.Nat.{ℕ, ◌+◌, ◌*◌, ◌-◌, min}
use native.Mathlib.Omega.{arith}
use lib.ListN.{drop, get_or}
use Rattle.std.specs.Prelude.{Option}
use Rattle.std.specs.Option.{unwrap_or}
use Rattle.desk_text.specs.Cents.{most, value_after, padded}
use Rattle.desk_text.proofs.Laws.Digits.{held_before, turned, padded_none}
use Rattle.desk_text.proofs.cents.with_digits.Goals as goal

pub loop-i-init : goal.loop-i-init
loop-i-init c =
    let a = c.args in
    let e : a.count - 0 ≡ a.count = omega arith in
    (omega (arith, c.min-v.ensures), ap (λ (m : ℕ). min (value_after m (padded (a.count - 0) a.s.now)) most) c.min-v.ensures ∙ held_before a.n (padded (a.count - 0) a.s.now) ∙ ap (λ (m : ℕ). min (value_after a.n (padded m a.s.now)) most) e)

pub loop-i-preserved : goal.loop-i-preserved
loop-i-preserved c =
    let l = c.loop-i in
    let a = c.args in
    let s = c.args.s.now in
    let rest = padded (a.count - (l.i + 1)) (drop (l.i + 1) s) in
    let d : c.unwrap_or.result ≡ get_or s l.i 48 =
    c.unwrap_or.ensures ∙ ap (λ (o : Option ℕ). unwrap_or o 48) c.copied.ensures ∙ c.get.ensures.lookup.4 (omega arith) 48 in
    let e : c.with_digit-v.result ≡ min (l.v * 10 + (get_or s l.i 48 - 48)) most =
    c.with_digit-v.ensures ∙ ap (λ (b : ℕ). min (l.v * 10 + (b - 48)) most) d in (
      omega (arith, e),
      ap (λ (m : ℕ). min (value_after m rest) most) e ∙ held_before (l.v * 10 + (get_or s l.i 48 - 48)) rest
          ∙ turned l.v s a.count l.i c.loop-i-test.true ∙ l.invariant.1,
    )

pub returns : goal.returns
returns c =
    let l = c.loop-i in
    let a = c.args in
    sym (padded_none l.v a.count l.i (drop l.i a.s.now) l.invariant.0 c.loop-i-test.false) ∙ l.invariant.1
