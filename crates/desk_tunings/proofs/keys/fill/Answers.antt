-- `desk_tunings::keys::fill` meets its contract. The invariant: the entries below the place are filled, and the others are as they were.
-- Assumes nothing.
use mathlib.Core.Path.{◌≡◌, sym, ap, ◌∙◌}
use Prim.Native.Nat.{◌+◌}
use native.Mathlib.Omega.{arith}
use lib.ListN.{get_or}
use lib.Seq.{ext_get_or}
use Rattle.desk_tunings.specs.Keys.{filled_entry, filled_from}
use Rattle.desk_tunings.proofs.Laws.Entries.{filled_length, filled_at}
use Rattle.desk_tunings.proofs.keys.fill.Goals as goal

pub returns : goal.returns
returns c =
    let l = c.loop-key in
    let s = c.args.entries.now in
    ext_get_or 0 l.entries (filled_from 0 s) (l.invariant.0 ∙ sym (filled_length 0 s))
    (λ k h. let z : 0 + k ≡ k = omega arith in l.invariant.1 k (omega arith) ∙ ap (filled_entry (get_or s k 0)) (sym z) ∙ sym (filled_at 0 s k (omega arith)))
