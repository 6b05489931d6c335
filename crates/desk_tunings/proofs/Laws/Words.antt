-- Laws of the words of a text without its comments, and of the values that they say.
-- Assumes nothing.
use borrow.Author.Tests.{le-leb, lt-leb}
use mathlib.Core.Path.{◌≡◌, refl, sym, ap, ◌∙◌}
use mathlib.Core.Bool.{Bool, true, false, not, ◌||◌}
use mathlib.Core.Logic.{⊎_elim}
use mathlib.Core.List.{List, [], ◌∷◌}
use Prim.Native.Nat.{ℕ, zero, suc, ◌+◌, ◌≤◌, ◌<◌}
use native.Mathlib.Omega.{arith}
use lib.ListN.{length, drop, get_or, set, length-drop}
use lib.Dec.{eqb}
use Rattle.std.specs.Prelude.{Option, Some, None, Result, Ok, Err}
use Rattle.util.specs.Pick.{pick}
use Rattle.desk_text.specs.Spans.{is_line_end, is_blank, span}
use Rattle.desk_text.specs.Lines.{begins_comment, word_of, from_word}
use Rattle.desk_text.specs.declared.cents.Decimals.{Decimals}
use Rattle.desk_text.specs.Cents.{cents_of}
use Rattle.desk_text.proofs.Laws.Digits.{either}
use Rattle.desk_tunings.specs.declared.scale.ValuesError.{ValuesError}
use Rattle.desk_tunings.specs.declared.scale.ValuesError.TheVariants.{TooMany}
use Rattle.desk_tunings.specs.Scale.{Values, value_of, value_or, refused_as, value_answer, put_value, word_answer, word_values, good_values, counted_as, words_within, words_of, read_words}

words_enough : (n m : ℕ) (t : List ℕ) → length t ≤ n → length t ≤ m → words_within n t ≡ words_within m t
unfolding words_within
words_enough zero zero t p q = refl
words_enough zero (suc m) [] p q = refl
words_enough zero (suc m) (b ∷ l) p q = absurd (omega arith)
words_enough (suc n) zero [] p q = refl
words_enough (suc n) zero (b ∷ l) p q = absurd (omega arith)
words_enough (suc n) (suc m) [] p q = refl
words_enough (suc n) (suc m) (b ∷ l) p q =
    let c = length-drop (span is_line_end l) l in
    let w = length-drop (span is_blank l) l in
    rw (words_enough n m l (omega arith) (omega arith), words_enough n m (drop (span is_line_end l) l) (omega arith) (omega arith), words_enough n m (drop (span is_blank l) l) (omega arith) (omega arith))

module _ (b : ℕ) (l : List ℕ) where
  words_cons : words_of (b ∷ l) ≡ pick (is_blank b) (words_of l) (pick (begins_comment true b) (words_of (drop (span is_line_end l) l)) (word_of (b ∷ l) ∷ words_of (drop (span is_blank l) l)))
  unfolding words_of words_within
  words_cons =
      let x = drop (span is_line_end l) l in
      let y = drop (span is_blank l) l in
      let c = length-drop (span is_line_end l) l in
      let w = length-drop (span is_blank l) l in
      rw (words_enough (length l) (length x) x (omega arith) (omega arith), words_enough (length l) (length y) y (omega arith) (omega arith))

  blank_first : is_blank b ≡ true → words_of (b ∷ l) ≡ words_of l
  blank_first e = words_cons ∙ rw e

pub skip_words : (t : List ℕ) → words_of (from_word t) ≡ words_of t
unfolding span from_word
skip_words [] = refl
skip_words (b ∷ l) = ⊎_elim (λ e. rw e (skip_words l ∙ sym (blank_first b l e))) (λ e. rw e) (either (is_blank b))

pub skip_stop : (t : List ℕ) → 0 < length (from_word t) → is_blank (get_or (from_word t) 0 0) ≡ false
unfolding span from_word
skip_stop [] h = absurd (omega arith)
skip_stop (b ∷ l) h =
    ⊎_elim (λ e. let k = rw e at h in rw e (skip_stop l (omega arith))) (λ e. rw e e) (either (is_blank b))

pub skip_length : (t : List ℕ) → length (from_word t) ≤ length t
unfolding from_word
skip_length t = omega (arith, length-drop (span (λ b. not (is_blank b)) t) t)

or_right : (a b : Bool) → (a || b) ≡ false → b ≡ false
or_right true b h = let z : ◌≡◌ {A = ℕ} 0 1 = cc in absurd (omega arith)
or_right false b h = h

-- a line end is a blank
not_end : (b : ℕ) → is_blank b ≡ false → is_line_end b ≡ false
unfolding is_blank
not_end b h = or_right (eqb b 9) (is_line_end b) (or_right (eqb b 32) (eqb b 9 || is_line_end b) h)

-- a text whose first byte is no blank: a comment stands first, or a word
module _ (b : ℕ) (l : List ℕ) (e : is_blank b ≡ false) where
  past_line : drop (span is_line_end (b ∷ l)) (b ∷ l) ≡ drop (span is_line_end l) l
  unfolding span
  past_line = rw (not_end b e)

  past_word : drop (span is_blank (b ∷ l)) (b ∷ l) ≡ drop (span is_blank l) l
  unfolding span
  past_word = rw e

pub comment_turn : (t : List ℕ) → 0 < length t → is_blank (get_or t 0 0) ≡ false → begins_comment true (get_or t 0 0) ≡ true
    → words_of (drop (span is_line_end t) t) ≡ words_of t
comment_turn [] h e f = absurd (omega arith)
comment_turn (b ∷ l) h e f = ap words_of (past_line b l e) ∙ sym (words_cons b l ∙ rw (e, f))

pub comment_less : (t : List ℕ) → 0 < length t → is_blank (get_or t 0 0) ≡ false → length (drop (span is_line_end t) t) < length t
comment_less [] h e = absurd (omega arith)
comment_less (b ∷ l) h e = rw (past_line b l e) (omega (arith, length-drop (span is_line_end l) l))

word_turn : (t : List ℕ) → 0 < length t → is_blank (get_or t 0 0) ≡ false → begins_comment true (get_or t 0 0) ≡ false
    → words_of t ≡ word_of t ∷ words_of (drop (span is_blank t) t)
word_turn [] h e f = absurd (omega arith)
word_turn (b ∷ l) h e f = words_cons b l ∙ rw (e, f, past_word b l e)

pub word_less : (t : List ℕ) → 0 < length t → is_blank (get_or t 0 0) ≡ false → length (drop (span is_blank t) t) < length t
word_less [] h e = absurd (omega arith)
word_less (b ∷ l) h e = rw (past_word b l e) (omega (arith, length-drop (span is_blank l) l))

-- a text that begins with a word, and the text behind the word
module _ (t : List ℕ) (n : ℕ) (vs vs' : List ℕ) (h : 0 < length t) (e : is_blank (get_or t 0 0) ≡ false) (f : begins_comment true (get_or t 0 0) ≡ false) where
  pub no_room : length vs ≤ n → ◌≡◌ {A = Values × List ℕ} (Err TooMany, vs) (read_words (words_of t) n vs)
  unfolding read_words
  no_room r = rw (word_turn t h e f, le-leb _ _ r)

  module _ (r : n < length vs) (b : vs' ≡ word_values (cents_of (word_of t)) n vs) where
    pub good_word : (u : Unit {0}) → ◌≡◌ {A = Values} (Ok u) (word_answer (cents_of (word_of t)) n)
        → read_words (words_of (drop (span is_blank t) t)) (n + 1) vs' ≡ read_words (words_of t) n vs
    unfolding read_words good_values
    good_word u a = rw (word_turn t h e f, lt-leb _ _ r, ← a, ← b)

    pub wrong_word : (x : ValuesError) → ◌≡◌ {A = Values} (Err x) (word_answer (cents_of (word_of t)) n)
        → ◌≡◌ {A = Values × List ℕ} (Err x, vs') (read_words (words_of t) n vs)
    unfolding read_words good_values
    wrong_word x a = rw (word_turn t h e f, lt-leb _ _ r, ← a, ← b)

-- no word is left
pub no_word : (t : List ℕ) (n : ℕ) (vs : List ℕ) (v : Values) → v ≡ counted_as n → length t ≡ 0 → ◌≡◌ {A = Values × List ℕ} (v, vs) (read_words (words_of t) n vs)
unfolding read_words words_of words_within
no_word [] n vs v e h = rw e
no_word (b ∷ t) n vs v e h = absurd (omega arith)

abbrev is_value : Result ℕ ValuesError → ℕ
is_value (Ok v) = 1
is_value (Err e) = 0

abbrev value_in : Result ℕ ValuesError → ℕ
value_in (Ok v) = v
value_in (Err e) = 0

abbrev as_values : Result ℕ ValuesError → Values
as_values (Ok v) = Ok tt
as_values (Err e) = Err e

value_put : (o : Option ℕ) (e : ValuesError) (v n : ℕ) (vs : List ℕ) → ◌≡◌ {A = Result ℕ ValuesError} (Ok v) (value_or o e)
    → (◌≡◌ {A = Values} (Ok tt) (value_answer o e)) × (set vs n v ≡ put_value o n vs)
unfolding value_or value_answer put_value
value_put (Some x) e v n vs h = (refl, ap (λ (r : Result ℕ ValuesError). set vs n (value_in r)) h)
value_put None e v n vs h = let z : ◌≡◌ {A = ℕ} 1 0 = ap is_value h in absurd (omega arith)

none_put : (o : Option ℕ) (e x : ValuesError) (n : ℕ) (vs : List ℕ) → ◌≡◌ {A = Result ℕ ValuesError} (Err x) (value_or o e)
    → (◌≡◌ {A = Values} (Err x) (value_answer o e)) × (vs ≡ put_value o n vs)
unfolding value_or value_answer put_value
none_put (Some v) e x n vs h = let z : ◌≡◌ {A = ℕ} 0 1 = ap is_value h in absurd (omega arith)
none_put None e x n vs h = (ap as_values h, refl)

module _ (d : Option Decimals) (n : ℕ) (vs : List ℕ) where
  -- a value that a word has is put
  pub put_good : (v : ℕ) → ◌≡◌ {A = Result ℕ ValuesError} (Ok v) (value_or (value_of d) (refused_as d (n + 1)))
      → (◌≡◌ {A = Values} (Ok tt) (word_answer d n)) × (set vs n v ≡ word_values d n vs)
  unfolding word_answer word_values
  put_good v h = value_put (value_of d) (refused_as d (n + 1)) v n vs h

  -- where a word has none, what is wrong is told, and nothing is put
  pub put_wrong : (x : ValuesError) → ◌≡◌ {A = Result ℕ ValuesError} (Err x) (value_or (value_of d) (refused_as d (n + 1)))
      → (◌≡◌ {A = Values} (Err x) (word_answer d n)) × (vs ≡ word_values d n vs)
  unfolding word_answer word_values
  put_wrong x h = none_put (value_of d) (refused_as d (n + 1)) x n vs h
