-- `read_tuning::entries::tuning_at` meets its contract.
-- Assumes nothing.
use mathlib.Core.Path.{sym, ap, ◌∙◌}
use Prim.Native.Nat.{◌+◌, ◌≤◌}
use native.Mathlib.Omega.{arith}
use lib.ListN.{length}
use Rattle.messages.specs.Entries.{tuning_entry}
use Rattle.read_tuning.proofs.Laws.Entries.{tuning_whole}
use Rattle.read_tuning.proofs.entries.tuning_at.Goals as goal

pub overflow_cast-semitone : goal.overflow_cast-semitone
overflow_cast-semitone c = omega (arith, c.shared_slice_known-2-1.given c.args.i)

pub overflow_cast-fraction : goal.overflow_cast-fraction
overflow_cast-fraction c =
    let g = c.shared_slice_known-3-1.given in
    let i = c.args.i in
    omega (arith, g (i + 1), g (i + 2))

pub overflow_mul-fraction : goal.overflow_mul-fraction
overflow_mul-fraction c =
    let g = c.shared_slice_known-3-1.given in
    let i = c.args.i in
    omega (arith, g (i + 1), g (i + 2))

pub overflow_cast-fraction-2 : goal.overflow_cast-fraction-2
overflow_cast-fraction-2 c =
    let g = c.shared_slice_known-4-1.given in
    let i = c.args.i in
    omega (arith, g (i + 1), g (i + 2))

pub overflow_add-fraction-3 : goal.overflow_add-fraction-3
overflow_add-fraction-3 c =
    let g = c.shared_slice_known-4-1.given in
    let i = c.args.i in
    omega (arith, g (i + 1), g (i + 2))

pub named-requires : goal.named-requires
named-requires c =
    let g = c.shared_slice_known-4-1.given in
    let i = c.args.i in
    (omega (arith, g i), omega (arith, g (i + 1), g (i + 2)))

pub returns : goal.returns
returns c =
    let f = c.args.f.now in
    let i = c.args.i in
    let h : i + 3 ≤ length f = omega (arith, c.if-f-i.false, c.if-f-lt3.false) in
    (c.named.ensures.0 ∙ ap tuning_entry (sym (tuning_whole f i h)), c.named.ensures.1)
