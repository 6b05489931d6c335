-- Laws of a word's number: one more digit, a byte that is no digit, a number that is too large to go on, the end.
-- Assumes nothing.
use mathlib.Core.Path.{◌≡◌}
use mathlib.Core.Bool.{true, false}
use mathlib.Core.List.{List}
use Prim.Native.Nat.{ℕ, ◌+◌, ◌*◌, ◌-◌, ◌≤◌, ◌<◌}
use native.Mathlib.Numerals.{add-one}
use mathlib.Core.Logic.{⊎_elim}
use lib.ListN.{length, drop, get_or, drop_of_length-le}
use lib.Seq.{drop-cons}
use borrow.Author.Tests.{lt-ltb, le-ltb}
use Rattle.std.specs.Prelude.{Some, None}
use Rattle.desk_text.specs.Spans.{is_digit}
use Rattle.desk_text.specs.Decimal.{after}
use Rattle.desk_text.proofs.Laws.Digits.{digit_least, digit_most, not_digit}

module _ (s : List ℕ) (n i : ℕ) (h : i < length s) where
  pub after_other : is_digit (get_or s i 0) ≡ false → after n (drop i s) ≡ None
  unfolding after
  after_other l =
      ⊎_elim
      (λ (low : get_or s i 0 < 48). rw (drop-cons s i 0, lt-ltb _ _ low))
      (λ (b : (48 ≤ get_or s i 0) × (57 < get_or s i 0)). rw (drop-cons s i 0, le-ltb _ _ b.0, lt-ltb _ _ b.1))
      (not_digit (get_or s i 0) l)

  pub after_large : is_digit (get_or s i 0) ≡ true → 1000000000000000 < n → after n (drop i s) ≡ None
  unfolding after
  after_large d l = rw (drop-cons s i 0, le-ltb _ _ (digit_least _ d), le-ltb _ _ (digit_most _ d), lt-ltb _ _ l)

  pub after_digit : is_digit (get_or s i 0) ≡ true → n ≤ 1000000000000000
      → after (n * 10 + (get_or s i 0 - 48)) (drop (i + 1) s) ≡ after n (drop i s)
  unfolding after
  after_digit d l = rw (add-one, drop-cons s i 0, le-ltb _ _ (digit_least _ d), le-ltb _ _ (digit_most _ d), le-ltb _ _ l)

pub after_end : (s : List ℕ) (n i : ℕ) → length s ≤ i → after n (drop i s) ≡ Some n
unfolding after
after_end s n i h = rw (drop_of_length-le s {i = i} h)
