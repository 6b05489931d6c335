-- `read_tuning::note_change` meets its contract.
-- Assumes nothing.
use mathlib.Core.Path.{refl, sym, ap, ◌∙◌}
use Prim.Native.Nat.{ℕ, ◌+◌, ◌*◌, ◌<◌, ◌≤◌}
use lib.ListN.{length}
use native.Mathlib.Omega.{arith}
use Rattle.messages.specs.declared.head.Head.TheVariants as head
use Rattle.messages.specs.Messages.{plain_answer}
use Rattle.read_places.proofs.Laws.Answers.{reads_none}
use Rattle.read_places.proofs.Laws.Lists.{entries_length}
use Rattle.read_tuning.proofs.Laws.Heads.{changes_not, changes_read}
use Rattle.read_places.proofs.Laws.Numbers.{seven_get, value_get}
use Rattle.messages.specs.Entries.{change_entry}
use Rattle.read_places.specs.Places.{value_at, change_at}
use Rattle.read_tuning.proofs.note_change.Goals as goal

pub returns-then-len-lt3 : goal.returns-then-len-lt3
returns-then-len-lt3 c = reads_none head.TuningNoteChange _ (changes_not c.args.f.now c.len.ensures.seven (λ m n. omega (arith, c.len.ensures.size, c.if-len-lt3.true)))

pub returns-then-len-n : goal.returns-then-len-n
returns-then-len-n c =
    let e = c.u7_at-n.ensures in
    reads_none head.TuningNoteChange _
    (changes_not c.args.f.now c.len.ensures.seven (λ m n. c.if-len-n.true (c.len-2.ensures.size ∙ n ∙ ap (λ (v : ℕ). 3 + 4 * v) (sym e))))

pub returns : goal.returns
returns c =
    let f = c.args.f.now in
    let e = c.u7_at-n.ensures in
    let m : 3 ≤ length f = omega (arith, c.len.ensures.size, c.if-len-lt3.false) in
    let n = sym c.len-2.ensures.size ∙ c.if-len-n.false ∙ ap (λ (v : ℕ). 3 + 4 * v) e in
    let g : value_at 1 f 2 < 128 = rw (value_get f 2) (seven_get f 2 c.len.ensures.seven) in
    record {
      says = λ d. rw (c.u7_at-2.ensures, c.u7_at.ensures, e) (ap (plain_answer d head.TuningNoteChange) (sym (changes_read f c.len.ensures.seven m n)));
      part = (omega arith, omega arith, omega arith, omega (arith, entries_length (λ j. change_entry (change_at f j)) 4 c.u7_at-n.result 3));
      start = (refl, refl);
    }
