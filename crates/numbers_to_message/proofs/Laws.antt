-- Laws of the proofs: numbers by place are read as a row says, and the places of a loop.
-- Assumes nothing.
use mathlib.Core.Path.{◌≡◌, refl, sym, ap, ◌∙◌, subst}
use mathlib.Core.Bool.{Bool, true, false}
use mathlib.Core.List.{List, [], ◌∷◌}
use mathlib.Core.Option.{Option, none, some}
use Prim.Native.Nat.{ℕ, suc, ◌+◌, ◌≤◌, ◌<◌}
use native.Mathlib.Omega.{arith}
use native.Mathlib.Numerals.{add-one}
use lib.Dec.{ltb, leb}
use lib.ListN.{length, drop, get_or, drop_of_length-le}
use lib.Seq.{drop-cons}
use borrow.Author.Tests.{ltb-true, ltb-false, leb-true, leb-false, lt-ltb, le-ltb}
use Rattle.util.specs.Pick.{pick}
use Rattle.numbers_to_message.specs.Types.{NumberType, DeviceID, UniversalNonRealTimeMsg, Made}
use Rattle.std.specs.Prelude.{None, Result, Ok, Err, MatchResult}
use Rattle.std.specs.Result.{result_or, result_ok}
use Rattle.std.specs.Option.{option_map}
use Rattle.numbers_to_message.specs.declared.fit.NumberType.TheVariants.{U8, Device}
use Rattle.numbers_to_message.specs.Values.{value, or_else}
use Rattle.numbers_to_message.specs.Rows.{Fun, Row}
use Rattle.numbers_to_message.specs.Table.{given, read, read_first, or_other, rows_of}
use Rattle.numbers_to_message.specs.Fits.{is_some, fit, taken, misfit, fits, made, message_if, row_message, row_fits, fits_any, first_message, answer}

given_is : {A : Type 0} (o : Option A) (b : A) (k : A → Made) → given o k ≡ pick (is_some o) (k (or_else o b)) None
given_is none b k = refl
given_is (some a) b k = refl

pub given_none : {A : Type 0} (o : Option A) (b : A) (k : A → Made) → is_some o ≡ false → given o k ≡ None
given_none o b k e = given_is o b k ∙ ap (λ (x : Bool). pick x (k (or_else o b)) None) e

pub given_some : {A : Type 0} (o : Option A) (b : A) (k : A → Made) → is_some o ≡ true → given o k ≡ k (or_else o b)
given_some o b k e = given_is o b k ∙ ap (λ (x : Bool). pick x (k (or_else o b)) None) e

both : (a b : Bool) (d : DeviceID) (m : UniversalNonRealTimeMsg) → pick a (message_if b d m) None ≡ message_if (pick a b false) d m
both true b d m = refl
both false b d m = refl

first_is : (a b : Bool) (m n : UniversalNonRealTimeMsg) (d : DeviceID) → or_other (message_if a d m) (message_if b d n) ≡ message_if (pick a true b) d (pick a m n)
first_is true b m n d = refl
first_is false b m n d = refl

module _ (d : DeviceID) (v : List ℕ) where
  end_is : (m : UniversalNonRealTimeMsg) (i : ℕ) (b : Bool) → leb (length v) i ≡ b → read [] m d (drop i v) ≡ message_if b d m
  end_is m i true e = rw (drop_of_length-le v {i = i} (leb-true _ _ e))
  end_is m i false e = rw (drop-cons v i 0 (leb-false _ _ e))

  next_is : (t : NumberType) (ts : List NumberType) (m : Fun (t ∷ ts) UniversalNonRealTimeMsg) (i : ℕ) (b : Bool) → ltb i (length v) ≡ b
      → ((n : Fun ts UniversalNonRealTimeMsg) → read ts n d (drop (suc i) v) ≡ message_if (fits ts v (suc i)) d (made ts n v (suc i)))
      → read (t ∷ ts) m d (drop i v) ≡ message_if (pick b (pick (fit t (get_or v i 0)) (fits ts v (suc i)) false) false) d (made (t ∷ ts) m v i)
  next_is t ts m i true e k =
      rw (drop-cons v i 0 (ltb-true _ _ e))
      (given_is (value t (get_or v i 0)) (misfit t) (λ a. read ts (m a) d (drop (suc i) v))
      ∙ ap (λ (r : Made). pick (fit t (get_or v i 0)) r None) (k (m (taken t (get_or v i 0))))
      ∙ both (fit t (get_or v i 0)) (fits ts v (suc i)) d (made (t ∷ ts) m v i))
  next_is t ts m i false e k = rw (drop_of_length-le v {i = i} (ltb-false _ _ e))

  -- a row's reading, by place
  pub row_is : (ts : List NumberType) (m : Fun ts UniversalNonRealTimeMsg) (i : ℕ) → read ts m d (drop i v) ≡ message_if (fits ts v i) d (made ts m v i)
  row_is [] m i = end_is m i (leb (length v) i) refl
  row_is (t ∷ ts) m i = next_is t ts m i (ltb i (length v)) refl (λ n. row_is ts n (suc i))

  -- rows in order, by place
  pub rows_are : (rs : List Row) → read_first rs d (drop 2 v) ≡ message_if (fits_any rs v) d (first_message rs v)
  rows_are [] = refl
  rows_are (r ∷ []) = row_is r.types r.make 2
  rows_are (r ∷ s ∷ rs) =
      ap (λ (x : Made). or_other x (read_first (s ∷ rs) d (drop 2 v))) (row_is r.types r.make 2)
      ∙ ap (or_other (message_if (row_fits r v) d (row_message r v))) (rows_are (s ∷ rs))
      ∙ first_is (row_fits r v) (fits_any (s ∷ rs) v) (row_message r v) (first_message (s ∷ rs) v) d

-- the message of a device and a head code, by place
pub whole_is : (v : List ℕ) (k : ℕ) → fit Device (get_or v 1 0) ≡ true
    → given (value Device (get_or v 1 0)) (λ d. read_first (rows_of k) d (drop 2 v)) ≡ message_if (fits_any (rows_of k) v) (taken Device (get_or v 1 0)) (first_message (rows_of k) v)
whole_is v k e =
    given_some (value Device (get_or v 1 0)) (misfit Device) (λ d. read_first (rows_of k) d (drop 2 v)) e ∙ rows_are (taken Device (get_or v 1 0)) v (rows_of k)

pub pick_yes : {T : Type 0} {b r : Bool} {x z : T} (y : T) → r ≡ b → r ≡ true → z ≡ x → z ≡ pick b x y
pick_yes {T} {b} {r} {x} {z} y p q e = e ∙ ap (λ (w : Bool). pick w x y) (sym q ∙ p)

pub pick_no : {T : Type 0} {b r : Bool} {y z : T} (x : T) → r ≡ b → r ≡ false → z ≡ y → z ≡ pick b x y
pick_no {T} {b} {r} {y} {z} x p q e = e ∙ ap (λ (w : Bool). pick w x y) (sym q ∙ p)

-- ---- the message of rows

-- the answer of two rows, and that of four
pub two_answers : {A : Type 0} (a b : Bool) (m n : A) → result_or (pick a (Ok m) (Err m)) (pick b (Ok n) (Err n)) ≡ pick (pick a true b) (Ok (pick a m n)) (Err (pick a m n))
two_answers true b m n = refl
two_answers false b m n = refl

pub four_answers : {A : Type 0} (a b c d : Bool) (m n p q : A)
    → result_or (result_or (result_or (pick a (Ok m) (Err m)) (pick b (Ok n) (Err n))) (pick c (Ok p) (Err p))) (pick d (Ok q) (Err q))
    ≡ pick (pick a true (pick b true (pick c true d))) (Ok (pick a m (pick b n (pick c p q)))) (Err (pick a m (pick b n (pick c p q))))
four_answers true b c d m n p q = refl
four_answers false true c d m n p q = refl
four_answers false false true d m n p q = refl
four_answers false false false d m n p q = refl

-- the message of an answer
message_at : {A : Type 0} (b : Bool) (m r : A) → MatchResult (pick b (Ok m) (Err m)) (λ x. r ≡ x) (λ x. r ≡ x) → r ≡ m
message_at true m r h = h
message_at false m r h = h

pub message_is : {A : Type 0} (b : Bool) (m r : A) (a : Result A A) → a ≡ pick b (Ok m) (Err m) → MatchResult a (λ x. r ≡ x) (λ x. r ≡ x) → r ≡ m
message_is b m r a e h = message_at b m r (subst (λ w. MatchResult w (λ x. r ≡ x) (λ x. r ≡ x)) e h)

-- a device and the message of an answer
answer_is : (b : Bool) (d : DeviceID) (m : UniversalNonRealTimeMsg) → message_if b d m ≡ option_map (λ n. (d, n)) (result_ok (pick b (Ok m) (Err m)))
answer_is true d m = refl
answer_is false d m = refl

module _ (v : List ℕ) (k : ℕ) where
  pub whole_none : value Device (get_or v 1 0) ≡ none → given (value Device (get_or v 1 0)) (λ d. read_first (rows_of k) d (drop 2 v)) ≡ None
  whole_none e = rw e

  pub whole_some : (d : DeviceID) → value Device (get_or v 1 0) ≡ some d
      → given (value Device (get_or v 1 0)) (λ d. read_first (rows_of k) d (drop 2 v)) ≡ option_map (λ n. (d, n)) (result_ok (answer (rows_of k) v))
  whole_some d e = ap (λ o. given o (λ d. read_first (rows_of k) d (drop 2 v))) e ∙ rows_are d v (rows_of k) ∙ answer_is (fits_any (rows_of k) v) d (first_message (rows_of k) v)

-- ---- whether a value is some

pub fit_as : (x : ℕ) {t u : NumberType} {b : Bool} → t ≡ u → b ≡ fit u x → b ≡ fit t x
fit_as x e p = p ∙ sym (ap (λ (w : NumberType). fit w x) e)

pub pick_some : {A : Type 0} (b : Bool) (a : A) → b ≡ is_some (pick b (some a) none)
pick_some true a = refl
pick_some false a = refl

-- ---- the loop over the types of a row

module _ (types : List NumberType) (v : List ℕ) (i : ℕ) where
  module _ (l : i < length types) where
    pub turn_short : length v ≤ i + 2 → false ≡ fits (drop i types) v (i + 2)
    turn_short s = rw (drop-cons types i U8, le-ltb _ _ s)

    pub turn_misfit : (t : NumberType) → t ≡ get_or types i t → fit t (get_or v (i + 2) 0) ≡ false → i + 2 < length v → false ≡ fits (drop i types) v (i + 2)
    turn_misfit t g e s = rw (drop-cons types i t, ← g, lt-ltb _ _ s, e)

    pub turn_fit : (t : NumberType) → t ≡ get_or types i t → fit t (get_or v (i + 2) 0) ≡ true → i + 2 < length v
        → fits (drop (i + 1) types) v (i + 1 + 2) ≡ fits (drop i types) v (i + 2)
    turn_fit t g e s = let z : i + 1 + 2 ≡ suc (i + 2) = omega arith in rw (z, add-one, drop-cons types i t, ← g, lt-ltb _ _ s, e)

  pub turn_done : length types ≤ i → leb (length v) (i + 2) ≡ fits (drop i types) v (i + 2)
  turn_done h = rw (drop_of_length-le types {i = i} h)
