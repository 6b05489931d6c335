-- What a reader of fields answers: nothing where the layout reads nothing; a message of numbers alone; one with a part as its text.
-- Assumes nothing.
use mathlib.Core.Path.{◌≡◌, refl, sym, ap, ◌∙◌}
use mathlib.Core.Bool.{Bool, true, false}
use mathlib.Core.Option.{Option as Maybe, none, some}
use Rattle.std.specs.Prelude.{Option, Some, None, is_some}
use Rattle.std.specs.Bool.{then_some}
use mathlib.Core.List.{List, []}
use Prim.Native.Nat.{ℕ, ◌+◌}
use native.Mathlib.Omega.{arith}
use lib.Dec.{eqb}
use lib.ListN.{length, drop, drop_of_length-le}
use borrow.Author.Tests.{eqb-true, eq-eqb}
use Rattle.messages.specs.declared.head.Head.{Head}
use Rattle.util.specs.declared.refusal.Refusal.{Refusal}
use Rattle.messages.specs.declared.system_exclusive.DeviceID.{DeviceID}
use Rattle.messages.specs.declared.system_exclusive.DeviceID.TheVariants.{AllCall}
use Rattle.messages.specs.declared.system_exclusive.UniversalNonRealTimeMsg.{UniversalNonRealTimeMsg}
use Rattle.messages.specs.Layouts.{Fields, form, text_at}
use Rattle.messages.specs.Messages.{Message, make, refused, given, plain_answer}
use Rattle.messages.proofs.Exact.{refused_given}
use Rattle.read_places.specs.declared.Found.{Found}
use Rattle.read_places.specs.Found.{Reads, data_of, entries_of, found, found_of, within, starts, is_read}

module _ (h : Head) (f : List ℕ) where
  -- a message, with its text and its list
  pub reads_found : (r : Found) (x : Fields h) → ((d : DeviceID) → found_of d (Some r) f ≡ given (make d h x)) → within (Some r) f → starts h (Some r)
      → (form h).read f ≡ some x → Reads h (Some r) f
  reads_found r x says part start e = record { says = λ d. says d ∙ ap (plain_answer d h) (sym e); part = part; start = start }

  pub reads_none : (form h).read f ≡ none → Reads h None f
  reads_none e = record { says = λ d. ap (plain_answer d h) (sym e); part = tt; start = tt }

  -- a message of numbers alone
  module _ (m : UniversalNonRealTimeMsg) (x : Fields h) (says : (d : DeviceID) → found_of d (Some (found m 0 0 0 0)) f ≡ given (make d h x)) (z : length (data_of m f 0) + length (entries_of m f 0 0) ≡ 0) (t : text_at h ≡ 0) where
    pub reads_numbers : (form h).read f ≡ some x → Reads h (Some (found m 0 0 0 0)) f
    reads_numbers e = reads_found (found m 0 0 0 0) x says (omega arith, omega arith, omega arith, z) (sym t, rw t) e

    -- where a test passes
    pub reads_if : (b : Bool) → (b ≡ true → (form h).read f ≡ some x) → (b ≡ false → (form h).read f ≡ none) → Reads h (then_some b (found m 0 0 0 0)) f
    reads_if true y n = reads_numbers (y refl)
    reads_if false y n = reads_none (n refl)

    -- where one number is another, as the length is that of the layout
    pub reads_test : (a b : ℕ) → (a ≡ b → (form h).read f ≡ some x) → ((a ≡ b → ⊥) → (form h).read f ≡ none) → Reads h (then_some (eqb a b) (found m 0 0 0 0)) f
    reads_test a b y k =
        reads_if (eqb a b) (λ e. y (eqb-true a b e))
        λ e. k λ q. let z = sym (eq-eqb a b q) ∙ e in let w : ◌≡◌ {A = ℕ} 0 1 = cc in omega arith

-- nothing is left behind the last field
pub none_left : (f : List ℕ) (n : ℕ) → length f ≡ n → drop n f ≡ []
none_left f n e = drop_of_length-le f {i = n} (omega arith)

-- ---- whether a layout reads fields, by one number of theirs

module _ {A : Type 0} (o : Maybe A) (x : A) (n k : ℕ) (f : n ≡ k → o ≡ some x) (g : (n ≡ k → ⊥) → o ≡ none) where
  by : (t : Bool) → eqb n k ≡ t → t ≡ is_read o
  by true e = rw (f (eqb-true n k e))
  by false e = rw (g (λ q. let z = sym (eq-eqb n k q) ∙ e in let w : ◌≡◌ {A = ℕ} 0 1 = cc in omega arith))

  pub read_if : eqb n k ≡ is_read o
  read_if = by (eqb n k) refl

-- what a reader of fields has found is what the layout reads

found_answer : (d : DeviceID) (h : Head) (o : Maybe (Fields h)) {m : Message} → given m ≡ plain_answer d h o → true ≡ is_read o
found_answer d h none e = absurd (refused_given (sym e))
found_answer d h (some x) e = refl

nothing_answer : (d : DeviceID) (h : Head) (o : Maybe (Fields h)) {r : Refusal} → refused r ≡ plain_answer d h o → false ≡ is_read o
nothing_answer d h none e = refl
nothing_answer d h (some x) e = absurd (refused_given e)

pub reads_some : (h : Head) (f : List ℕ) (r : Option Found) → Reads h r f → is_some r ≡ is_read ((form h).read f)
reads_some h f (Some r) w = found_answer AllCall h ((form h).read f) (w.says AllCall)
reads_some h f None w = nothing_answer AllCall h ((form h).read f) (w.says AllCall)
