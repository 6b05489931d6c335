-- `read_tuning::scales::i14_at` meets its contract: two groups by place.
-- Assumes nothing.
use mathlib.Core.Path.{ap, ◌∙◌}
use mathlib.Core.List.{List}
use Prim.Native.Nat.{ℕ}
use native.Mathlib.Omega.{arith}
use lib.ListN.{length}
use Rattle.read_places.specs.Places.{value_at}
use Rattle.read_places.proofs.Laws.Numbers.{value_lt}
use Rattle.util.specs.Signed.{unbiased}
use Rattle.read_tuning.proofs.Laws.Scales.{from_bits_16}
use Rattle.read_tuning.proofs.scales.i14_at.Goals as goal

pub u14_to_i-requires : goal.u14_to_i-requires
u14_to_i-requires c =
    rw c.u14_at-v.ensures (value_lt c.f.inside.bytes.now c.f.invariant 2 c.args.i (omega (arith, c.requires, ap length c.f.view_is)))

pub returns : goal.returns
returns c =
    from_bits_16 c.u14_to_i.type_inv c.u14_to_i.ensures
    ∙ ap (unbiased 8192) (c.u14_at-v.ensures ∙ ap (λ (l : List ℕ). value_at 2 l c.args.i) c.f.view_is)
