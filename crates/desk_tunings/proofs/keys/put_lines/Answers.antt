-- `desk_tunings::keys::put_lines` meets its contract. The invariant: the lines that are left give what all lines give; there are no more keys set than lines, and no more lines than bytes.
-- Assumes nothing.
use mathlib.Core.Path.{sym, ap, ◌∙◌}
use mathlib.Core.List.{List}
use Prim.Native.Nat.{ℕ, ◌+◌}
use native.Mathlib.Omega.{arith}
use lib.ListN.{length}
use Rattle.std.proofs.lemmas.Result.{err_from_is_err_and}
use Rattle.desk_text.specs.Lines.{line_of, lines_of}
use Rattle.desk_tunings.specs.Lines.{said_line}
use Rattle.desk_tunings.specs.Keys.{put_answer, put_entries, read_lines}
use Rattle.desk_tunings.proofs.Laws.Texts.{behind_less, nonempty, empty}
use Rattle.desk_tunings.proofs.Laws.Entries.{put_set, good_turn, wrong_turn, no_line}
use Rattle.desk_tunings.proofs.keys.put_lines.Goals as goal

pub returns-in_err-set : goal.returns-in_err-set
returns-in_err-set c =
    let l = c.loop-rest in
    let t = l.rest.now in
    let h = nonempty _ (length t) c.is_empty.ensures c.loop-rest-test.true in
    let s = ap said_line c.split_line.ensures.line in
    let a = sym c.in_err-set.was ∙ c.put_line.ensures.value ∙ ap (λ (x : _). put_answer x (l.n + 1) l.set l.entries) s in
    let b = c.put_line.ensures.entries_after ∙ ap (λ (x : _). put_entries x l.entries) s in
    let p = err_from_is_err_and c.from_residual.result c.from_residual.ensures.1 in
    rw (p.1, p.2) (wrong_turn t l.n l.set l.entries _ h b _ a ∙ l.invariant.3)

pub loop-rest-smaller : goal.loop-rest-smaller
loop-rest-smaller c =
    let t = c.loop-rest.rest.now in
    let h = nonempty _ (length t) c.is_empty.ensures c.loop-rest-test.true in
    rw c.split_line.ensures.rest (behind_less t h)

pub loop-rest-preserved : goal.loop-rest-preserved
loop-rest-preserved c =
    let l = c.loop-rest in
    let t = l.rest.now in
    let h = nonempty _ (length t) c.is_empty.ensures c.loop-rest-test.true in
    let s = ap said_line c.split_line.ensures.line in
    let a = sym c.in_ok-set.was ∙ c.put_line.ensures.value ∙ ap (λ (x : _). put_answer x (l.n + 1) l.set l.entries) s in
    let b = c.put_line.ensures.entries_after ∙ ap (λ (x : _). put_entries x l.entries) s in
    let k = put_set (said_line (line_of t)) (l.n + 1) l.set c.in_ok-set.set l.entries a in
    let d = behind_less t h in
    let e = ap length c.split_line.ensures.rest in (
      omega (arith, d, e, l.invariant.0),
      omega (arith, k, l.invariant.1),
      c.put_line.auto.entries ∙ l.invariant.2,
      ap (λ (x : List ℕ). read_lines (lines_of x) (l.n + 1) c.in_ok-set.set c.put_line.new.entries) c.split_line.ensures.rest
          ∙ good_turn t l.n l.set l.entries _ h b c.in_ok-set.set a ∙ l.invariant.3,
    )

pub returns : goal.returns
returns c =
    let l = c.loop-rest in
    no_line l.rest.now l.n l.set l.entries (empty _ (length l.rest.now) c.is_empty.ensures c.loop-rest-test.false) ∙ l.invariant.3
