-- `read_tuning::entries::cut_tuning_at` meets its contract: a byte that is not there is 0, and one byte of a fraction is the fraction.
-- Assumes nothing.
use mathlib.Core.Path.{sym, ap, ◌∙◌}
use Prim.Native.Nat.{ℕ}
use native.Mathlib.Omega.{arith}
use lib.ListN.{get_or}
use Rattle.messages.specs.Fields.{tuning_named}
use Rattle.messages.specs.Entries.{tuning_entry}
use Rattle.read_tuning.proofs.Laws.Entries.{tuning_past, tuning_cut}
use Rattle.read_tuning.proofs.entries.cut_tuning_at.Goals as goal

pub returns-then-f-i : goal.returns-then-f-i
returns-then-f-i c =
    (c.named.ensures.0 ∙ ap tuning_entry (sym (tuning_past c.args.f.now c.args.i c.if-f-i.true)), c.named.ensures.1)

pub overflow_cast-semitone : goal.overflow_cast-semitone
overflow_cast-semitone c = omega (arith, c.shared_slice_known-2-1.given c.args.i)

pub named-requires-2 : goal.named-requires-2
named-requires-2 c =
    (omega (arith, c.shared_slice_known-2-1.given c.args.i), omega arith)

pub returns : goal.returns
returns c =
    let f = c.args.f.now in
    let i = c.args.i in (
      c.named-2.ensures.0
          ∙ ap (λ (v : ℕ). tuning_entry (tuning_named (get_or f i 0, v))) c.at-fraction.ensures
          ∙ ap tuning_entry (sym (tuning_cut f i c.requires)),
      c.named-2.ensures.1,
    )
