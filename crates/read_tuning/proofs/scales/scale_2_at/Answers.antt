-- `read_tuning::scales::scale_2_at` meets its contract: each signed number is read back from its bits.
-- Assumes nothing.
use mathlib.Core.Path.{◌≡◌, sym, subst}
use Prim.Native.Nat.{ℕ, ◌+◌, ◌*◌, ◌<◌}
use native.Mathlib.Omega.{arith}
use lib.IntN.{ℤ, pos}
use lib.ListN.{length, get_or, set, length-set}
use Rattle.std.proofs.lemmas.List.Edits.{fill_by_more}
use Rattle.std.proofs.lemmas.List.FromFn.{fill_by_all}
use Rattle.read_tuning.specs.Scales.{s14_at}
use Rattle.read_tuning.proofs.Laws.Scales.{from_bits_16}
use Rattle.read_tuning.proofs.scales.scale_2_at.Goals as goal

pub loop-k-preserved : goal.loop-k-preserved
loop-k-preserved c =
    let l = c.loop-k in
    let g : ℕ → ℤ = λ j. s14_at c.args.f.now (c.args.i + 2 * j) in
    let h : l.k < length l.scale = omega (arith, l.invariant.0, c.loop-k-test.true) in (
      simp length-set l.invariant.0,
      subst (λ (v : ℤ). (j : ℕ) → j < l.k + 1 → get_or (set l.scale l.k v) j (pos 0) ≡ g j) (sym (from_bits_16 c.i14_at.type_inv c.i14_at.ensures))
          (fill_by_more g l.scale l.k (pos 0) h l.invariant.1),
    )

pub returns : goal.returns
returns c =
    let l = c.loop-k in
    let g : ℕ → ℤ = λ j. s14_at c.args.f.now (c.args.i + 2 * j) in
    fill_by_all g l.scale 12 (pos 0) l.invariant.0 (λ j q. l.invariant.1 j (omega (arith, c.loop-k-test.false)))
