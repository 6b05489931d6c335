-- `desk_text::fractions::raised` meets its contract: more than the most is above every pitch.
-- Assumes nothing.
use borrow.Author.Tests.{lt-leb}
use mathlib.Core.Path.{◌∙◌, ap}
use Prim.Native.Nat.{ℕ, ◌+◌, ◌<◌}
use native.Mathlib.Omega.{arith}
use Rattle.desk_text.specs.Fractions.{step_16384, nearest, highest, tuning_entry, raised_entry}
use Rattle.desk_text.proofs.fractions.raised.Goals as goal

pub returns-then-a-le-MOST : goal.returns-then-a-le-MOST
unfolding raised_entry
returns-then-a-le-MOST c = c.in_range.ensures ∙ ap (λ (n : ℕ). tuning_entry (c.args.pitch + n)) c.nearest_16384.ensures

pub returns : goal.returns
unfolding raised_entry
returns c =
    let a = c.args in
    let h : highest < a.pitch + nearest step_16384 a.a = omega (arith, c.if-a-le-MOST.false) in
    rw (lt-leb _ _ h)
