-- What printing promises: every key from its name.
-- Assumes nothing.
use mathlib.Core.Path.{◌≡◌, refl, ap, ◌∙◌}
use mathlib.Core.Bool.{Bool, true, false, ◌&&◌}
use mathlib.Core.Logic.{⊎_elim}
use Prim.Native.Nat.{ℕ, zero, suc, ◌<◌}
use native.Mathlib.Nat.{eq-or-lt_of_le, le_of_suc-le-suc}
use native.Mathlib.Omega.{arith}
use borrow.Author.Tests.{eqb-true}
use lib.Dec.{eqb}
use Rattle.std.specs.Prelude.{Option, Some, None}
use Rattle.desk_text.specs.Decimal.{after, number_of}
use Rattle.desk_text.specs.Spans.{is_digit}
use Rattle.desk_text.specs.Keys.{capital, semitone, shift, octave, within_keys, key_at, named_of, octave_part, name_of, key_or_name, key_of}
use Rattle.desk_text.proofs.Laws.Digits.{and_left, and_right}
use Rattle.desk_print.specs.Text.{decimal, decimal_of, note_name, key_name}
use Rattle.desk_print.specs.Promises.{NamesBack}

abbrev is_number : Option ℕ → ℕ → Bool
is_number (Some n) k = eqb n k
is_number None k = false

-- whether a test passes at each number below another
abbrev all_below : ℕ → (ℕ → Bool) → Bool
all_below zero f = true
all_below (suc n) f = f n && all_below n f

at_each : (n : ℕ) (f : ℕ → Bool) → all_below n f ≡ true → (k : ℕ) → k < n → f k ≡ true
at_each zero f h k l = absurd (omega arith)
at_each (suc n) f h k l =
    ⊎_elim
    (λ e. ap f e ∙ and_left (f n) (all_below n f) h)
    (λ m. at_each n f (and_right (f n) (all_below n f) h) k m)
    (eq-or-lt_of_le (le_of_suc-le-suc l))

from_number : (x : Option ℕ) (k : ℕ) → is_number x k ≡ true → x ≡ Some k
from_number (Some n) k h = ap Some (eqb-true n k h)
from_number None k h = let z : ◌≡◌ {A = ℕ} 0 1 = cc in absurd (omega arith)

abbrev reads_back : ℕ → Bool
reads_back k = is_number (key_of (key_name k)) k

all_back : all_below 128 reads_back ≡ true
unfolding key_of key_or_name number_of after name_of octave_part octave shift semitone capital named_of key_at within_keys is_digit note_name decimal decimal_of
all_back = refl

pub names_back : NamesBack
names_back k h = from_number (key_of (key_name k)) k (at_each 128 reads_back all_back k h)
