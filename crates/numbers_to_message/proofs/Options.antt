-- Laws of the proofs: the code's options of values.
-- Assumes nothing.
use mathlib.Core.Path.{◌≡◌, refl, sym, ap, ◌∙◌, subst}
use mathlib.Core.Bool.{Bool, true, false}
use mathlib.Core.Option.{Option, none, some}
use Prim.Native.Nat.{ℕ, suc, ◌-◌, ◌^◌, ◌<◌, ◌≤◌}
use native.Mathlib.Omega.{arith}
use lib.Dec.{ltb}
use lib.IntN.{ℤ, pos, negsuc}
use mir.Syntax.{Width, w64}
use mir.Val.{SFits, hbits, sel, to_z}
use borrow.Author.Tests.{ltb-true, ltb-false, lt-ltb, le-ltb}
use Rattle.std.specs.Prelude as std
use Rattle.std.specs.Prelude.{Some, None, Result, Ok, Err, OkIff}
use Rattle.std.specs.Option.{unwrap_or, MatchOption, IsSomeAnd}
use Rattle.std.specs.Result.{result_ok}
use Rattle.util.specs.Pick.{pick}
use Rattle.util.specs.Options.{map_option}
use Rattle.numbers_to_message.specs.Values.{below, signed, or_else}
use Rattle.numbers_to_message.specs.Fits.{is_some, option_of}

pub some_is : {A : Type 0} (o : Option A) → std.is_some (option_of o) ≡ is_some o
some_is none = refl
some_is (some a) = refl

pub or_is : {A : Type 0} (o : Option A) (b : A) → unwrap_or (option_of o) b ≡ or_else o b
or_is none b = refl
or_is (some a) b = refl

pub of_none : {A : Type 0} (o : Option A) → option_of o ≡ None → o ≡ none
of_none none e = refl
of_none (some a) e = cc

pub of_some : {A : Type 0} (o : Option A) (a : A) → option_of o ≡ Some a → o ≡ some a
of_some none a e = cc
of_some (some b) a e = cc

pub pick_is : {A : Type 0} (b : Bool) (own : A) (o : Option A) → pick b (Some own) (option_of o) ≡ option_of (pick b (some own) o)
pick_is true own o = refl
pick_is false own o = refl

pub map_is : {A B : Type 0} (f : A → B) (o : Option A) (r : std.Option B) → MatchOption (option_of o) (r ≡ None) (λ x. IsSomeAnd r (λ y. y ≡ f x)) → r ≡ option_of (map_option f o)
map_is f none r h = h
map_is f (some a) None h = absurd h
map_is f (some a) (Some y) h = ap Some h

-- ---- what std's conversions of numbers answer

err_below : (n x : ℕ) (b : Bool) → ltb x n ≡ b → ¬ (x < n) → None ≡ option_of (pick b (some x) none)
err_below n x true e h = absurd (h (ltb-true x n e))
err_below n x false e h = refl

pub try_below : {E : Type 0} (k x : ℕ) (r : Result ℕ E) → OkIff r (x < 2 ^ k) x → result_ok r ≡ option_of (below (2 ^ k) x)
try_below k x (Ok y) h = rw (lt-ltb x (2 ^ k) h.0) (ap Some h.1)
try_below k x (Err e) h = err_below (2 ^ k) x (ltb x (2 ^ k)) refl h

module _ (w : Width) (n x : ℕ) (is : 2 ^ hbits w ≡ n) (s : n ≤ 2 ^ 63) (l : x < 2 ^ 64) where
  low_err : x < 2 ^ 63 → (b : Bool) → ltb x n ≡ b → ¬ (SFits w (pos x)) → None ≡ option_of (pick b (some (pos x)) (pick (ltb x (2 ^ 64 - n)) none (some (negsuc (2 ^ 64 - 1 - x)))))
  low_err h true e o = absurd (o (record { sfits = subst (λ (k : ℕ). x < k) (sym is) (ltb-true x n e) }))
  low_err h false e o = rw (lt-ltb x (2 ^ 64 - n) (omega arith))

  high_err : (b : Bool) → ltb x (2 ^ 64 - n) ≡ b → ¬ (SFits w (negsuc (2 ^ 64 - suc x))) → None ≡ option_of (pick b none (some (negsuc (2 ^ 64 - 1 - x))))
  high_err true e o = refl
  high_err false e o =
      let f : 2 ^ 64 - n ≤ x = ltb-false x (2 ^ 64 - n) e in
      let g : 2 ^ 64 - suc x < n = omega arith in
      absurd (o (record { sfits = subst (λ (k : ℕ). 2 ^ 64 - suc x < k) (sym is) g }))

  module _ {E : Type 0} where
    low_is : x < 2 ^ 63 → (r : Result ℤ E) → OkIff r (SFits w (pos x)) (pos x) → result_ok r ≡ option_of (signed n x)
    low_is h (Ok y) o = rw (lt-ltb x n (subst (λ (k : ℕ). x < k) is o.0.sfits)) (ap Some o.1)
    low_is h (Err e) o = low_err h (ltb x n) refl o

    high_is : 2 ^ 63 ≤ x → (r : Result ℤ E) → OkIff r (SFits w (negsuc (2 ^ 64 - suc x))) (negsuc (2 ^ 64 - suc x)) → result_ok r ≡ option_of (signed n x)
    high_is h (Ok y) o =
        let f : 2 ^ 64 - suc x < n = subst (λ (k : ℕ). 2 ^ 64 - suc x < k) is o.0.sfits in
        let g : 2 ^ 64 - suc x ≡ 2 ^ 64 - 1 - x = omega arith in
        rw (le-ltb x n (omega arith), le-ltb x (2 ^ 64 - n) (omega arith)) (ap Some (o.1 ∙ ap negsuc g))
    high_is h (Err e) o = rw (le-ltb x n (omega arith)) (high_err (ltb x (2 ^ 64 - n)) refl o)

    by_half : (b : Bool) → ltb x (2 ^ 63) ≡ b → (r : Result ℤ E) → OkIff r (SFits w (sel b (pos x) (negsuc (2 ^ 64 - suc x)))) (sel b (pos x) (negsuc (2 ^ 64 - suc x))) → result_ok r ≡ option_of (signed n x)
    by_half true e r o = low_is (ltb-true x (2 ^ 63) e) r o
    by_half false e r o = high_is (ltb-false x (2 ^ 63) e) r o

    try_signed : (r : Result ℤ E) → OkIff r (SFits w (to_z w64 x)) (to_z w64 x) → result_ok r ≡ option_of (signed n x)
    try_signed r o = by_half (ltb x (2 ^ 63)) refl r o

    -- what std converts of the number as it is signed
    pub signed_answer : (r : Result ℤ E) (y z : ℤ) → y ≡ z → z ≡ to_z w64 x → OkIff r (SFits w y) y → result_ok r ≡ option_of (signed n x)
    signed_answer r y z p q o = try_signed r (subst (λ (u : ℤ). OkIff r (SFits w u) u) (p ∙ q) o)
