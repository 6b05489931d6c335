-- `read_file_reference::maps::wav_at` meets its contract, field by field.
-- Assumes nothing.
use mathlib.Core.Path.{subst}
use mathlib.Core.List.{List}
use Prim.Native.Nat.{ℕ, ◌+◌}
use native.Mathlib.Omega.{arith}
use Rattle.util.specs.Groups.{Seven}
use Rattle.read_places.proofs.Laws.Numbers.{value_lt}
use Rattle.read_file_reference.proofs.maps.wav_at.Goals as goal

pub u14_to_i-requires : goal.u14_to_i-requires
u14_to_i-requires c =
    let s = subst (λ (l : List ℕ). Seven l) c.f.view_is c.f.invariant in
    rw (c.u14_at-2.ensures, c.f.view_is) (value_lt c.args.f.now s 2 (c.args.i + 6) (omega (arith, c.requires.0)))
