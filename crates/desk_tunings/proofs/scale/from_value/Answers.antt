-- `desk_tunings::scale::from_value` meets its contract. The invariant: the words are the same, and no blank stands first.
-- Assumes nothing.
use mathlib.Core.Path.{sym, ap, ◌∙◌}
use native.Mathlib.Omega.{arith}
use lib.ListN.{length}
use Rattle.desk_tunings.specs.Scale.{words_of}
use Rattle.desk_tunings.proofs.Laws.Words.{skip_words, skip_stop, skip_length, comment_turn, comment_less}
use Rattle.desk_tunings.proofs.scale.from_value.Goals as goal

pub loop-rest-init : goal.loop-rest-init
loop-rest-init c =
    let s = c.args.s.now in
    rw c.from_word-rest.ensures (skip_length s, skip_words s, skip_stop s)

pub loop-rest-smaller : goal.loop-rest-smaller
loop-rest-smaller c =
    let l = c.loop-rest in
    let t = l.rest.now in
    let x = c.from_line_end.result.now in
    let d = comment_less t (omega arith) (l.invariant.2 (omega arith)) in
    omega (arith, d, ap length c.from_line_end.ensures, skip_length x, ap length c.from_word-rest-in-len1-up.ensures)

pub loop-rest-preserved : goal.loop-rest-preserved
loop-rest-preserved c =
    let l = c.loop-rest in
    let t = l.rest.now in
    let x = c.from_line_end.result.now in
    let b = l.invariant.2 (omega arith) in
    let d = comment_less t (omega arith) b in
    let w = ap words_of c.from_line_end.ensures ∙ comment_turn t (omega arith) b (sym c.is_comment.ensures ∙ c.if-not-is_comment.false) in
    rw c.from_word-rest-in-len1-up.ensures (
      omega (arith, d, ap length c.from_line_end.ensures, skip_length x, l.invariant.0),
      skip_words x ∙ w ∙ l.invariant.1,
      skip_stop x,
    )
