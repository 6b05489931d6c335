-- `desk_tunings::scale::read` meets its contract. The invariant: there are no more values than room for them, which keeps its size; a word stands first, and the words that are left give what all words give.
-- Assumes nothing.
use mathlib.Core.Path.{refl, sym, ap, ◌∙◌}
use mathlib.Core.List.{List}
use Prim.Native.Nat.{ℕ, ◌+◌}
use native.Mathlib.Omega.{arith}
use lib.ListN.{length, set, length-set}
use Rattle.std.proofs.lemmas.Result.{err_from_is_err_and}
use Rattle.desk_text.specs.Lines.{word_of}
use Rattle.desk_text.specs.Cents.{cents_of}
use Rattle.desk_tunings.specs.Scale.{value_of, value_or, refused_as, words_of, read_words, read_values}
use Rattle.desk_tunings.proofs.Laws.Texts.{nonempty, empty}
use Rattle.desk_tunings.proofs.Laws.Words.{put_good, put_wrong, word_less, good_word, wrong_word, no_room, no_word}
use Rattle.desk_tunings.proofs.scale.read.Goals as goal

pub loop-rest-init : goal.loop-rest-init
unfolding read_values
loop-rest-init c =
    let a = c.args in
    let w = c.from_value-rest.ensures in
    (omega arith, refl, w.first, ap (λ (ws : List (List ℕ)). read_words ws 0 a.values.now) (w.words ∙ ap words_of c.behind_mark.ensures))

pub returns-then-values-n : goal.returns-then-values-n
returns-then-values-n c =
    let l = c.loop-rest in
    let t = l.rest.now in
    let h = nonempty _ (length t) c.is_empty.ensures c.loop-rest-test.true in
    let f = l.invariant.2 h in
    no_room t l.n l.values l.values h f.0 f.1 c.if-values-n.true ∙ l.invariant.3

pub returns-in_err-value : goal.returns-in_err-value
returns-in_err-value c =
    let l = c.loop-rest in
    let t = l.rest.now in
    let h = nonempty _ (length t) c.is_empty.ensures c.loop-rest-test.true in
    let f = l.invariant.2 h in
    let s = ap cents_of c.split_word.ensures.word in
    let d = cents_of (word_of t) in
    let a = put_wrong d l.n l.values _ (sym c.in_err-value.was ∙ c.value_at.ensures ∙ ap (λ (x : _). value_or (value_of x) (refused_as x (l.n + 1))) s) in
    let p = err_from_is_err_and c.from_residual.result c.from_residual.ensures.1 in
    rw (p.1, p.2) (wrong_word t l.n l.values _ h f.0 f.1 c.if-values-n.false a.1 _ a.0 ∙ l.invariant.3)

pub loop-rest-smaller : goal.loop-rest-smaller
loop-rest-smaller c =
    let l = c.loop-rest in
    let t = l.rest.now in
    let h = nonempty _ (length t) c.is_empty.ensures c.loop-rest-test.true in
    let f = l.invariant.2 h in
    let d = word_less t h f.0 in
    omega (arith, d, ap length c.split_word.ensures.rest, c.from_value-rest-in-loop-rest.ensures.bound)

pub loop-rest-preserved : goal.loop-rest-preserved
loop-rest-preserved c =
    let l = c.loop-rest in
    let t = l.rest.now in
    let h = nonempty _ (length t) c.is_empty.ensures c.loop-rest-test.true in
    let f = l.invariant.2 h in
    let s = ap cents_of c.split_word.ensures.word in
    let d = cents_of (word_of t) in
    let v = c.in_ok-value.value in
    let a = put_good d l.n l.values v (sym c.in_ok-value.was ∙ c.value_at.ensures ∙ ap (λ (x : _). value_or (value_of x) (refused_as x (l.n + 1))) s) in
    let w = c.from_value-rest-in-loop-rest.ensures in (
      omega (arith, c.if-values-n.false, l.invariant.1),
      length-set l.values l.n v ∙ l.invariant.1,
      w.first,
      ap (λ (ws : List (List ℕ)). read_words ws (l.n + 1) (set l.values l.n v)) (w.words ∙ ap words_of c.split_word.ensures.rest)
          ∙ good_word t l.n l.values _ h f.0 f.1 c.if-values-n.false a.1 _ a.0 ∙ l.invariant.3,
    )

pub returns : goal.returns
returns c =
    let l = c.loop-rest in
    no_word l.rest.now l.n l.values c.counted.result c.counted.ensures (empty _ (length l.rest.now) c.is_empty.ensures c.loop-rest-test.false) ∙ l.invariant.3
