-- `read_tuning::scales::i7_at` meets its contract.
-- Assumes nothing.
use mathlib.Core.Path.{ap, ◌∙◌}
use mathlib.Core.List.{List}
use Prim.Native.Nat.{ℕ}
use native.Mathlib.Omega.{arith}
use lib.ListN.{length}
use Rattle.read_places.specs.Places.{value_at}
use Rattle.read_places.proofs.Laws.Numbers.{value_lt}
use Rattle.util.specs.Signed.{unbiased}
use Rattle.read_tuning.proofs.Laws.Scales.{from_bits_8}
use Rattle.read_tuning.proofs.scales.i7_at.Goals as goal

pub u7_to_i-requires : goal.u7_to_i-requires
u7_to_i-requires c =
    rw c.u7_at-v.ensures (value_lt c.f.inside.bytes.now c.f.invariant 1 c.args.i (omega (arith, c.requires, ap length c.f.view_is)))

pub returns : goal.returns
returns c =
    from_bits_8 c.u7_to_i.type_inv c.u7_to_i.ensures
    ∙ ap (unbiased 64) (c.u7_at-v.ensures ∙ ap (λ (l : List ℕ). value_at 1 l c.args.i) c.f.view_is)
