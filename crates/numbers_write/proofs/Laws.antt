-- The message of numbers by place. Assumes nothing.
use mathlib.Core.Path.{◌≡◌, refl, sym, ap, ◌∙◌}
use mathlib.Core.Logic.{⊎_elim}
use mathlib.Core.Bool.{Bool, true, false}
use mathlib.Core.List.{List, [], ◌∷◌}
use Prim.Native.Nat.{ℕ, zero, suc, ◌+◌, ◌-◌, ◌^◌, ◌≤◌, ◌<◌}
use native.Mathlib.Omega.{arith}
use lib.Dec.{ltb, eqb}
use lib.Seq.{get_or-drop}
use lib.ListN.{length, get_or, drop, replicate, length-drop}
use borrow.Author.Tests.{ltb-true, ltb-false, leb-true, le-leb, lt-ltb, le-ltb, ne_eqb, eqb-true, eqb-false}
use Rattle.util.proofs.Laws.Options.{false_true}
use Rattle.util.specs.Pick.{pick}
use Rattle.std.proofs.lemmas.Bool.{cases_Bool}
use Rattle.numbers_to_message.specs.declared.fit.NumberType.{NumberType}
use Rattle.numbers_to_message.specs.declared.fit.NumberType.TheVariants as type
use Rattle.numbers_to_message.specs.Values.{value, below}
use Rattle.numbers_to_message.specs.Table.{rows_of, message_of_numbers}
use Rattle.numbers_to_message.specs.Fits.{is_some, fit, fits, misfit, message_if, fits_any, first_message}
use Rattle.numbers_to_message.proofs.Laws.{given_none, whole_is}
use Rattle.messages.specs.declared.system_exclusive.DeviceID.{DeviceID}
use Rattle.messages.specs.declared.system_exclusive.UniversalNonRealTimeMsg.{UniversalNonRealTimeMsg}
use Rattle.messages.specs.Messages.{write_of}
use Rattle.messages.specs.MessageOf.{message_of}
use Rattle.numbers_to_message.specs.Types.{Made}
use Rattle.std.specs.Prelude.{Some, None, Result, Ok, Err}
use Rattle.util.specs.declared.refusal.Refusal.{Refusal}
use Rattle.numbers_write.specs.declared.WriteError.TheVariants.{NoMessage}
use Rattle.writer.specs.Write.{written_at, written_number, written_value, output_after}
use Rattle.numbers_write.specs.Write.{as_answer, answer_number, answer_value, made_answer, made_number, made_value, made_output, write_answer, write_number, write_value, write_output}
use Rattle.numbers_write.specs.Whole.{is_message, device_in, message_in}

either : (b : Bool) → false ≡ pick b false false
either true = refl
either false = refl

pub yes_no : (b : Bool) → b ≡ pick b true false
yes_no true = refl
yes_no false = refl

-- the message of numbers is the one by place
pub message_is : (v : List ℕ) → message_of_numbers v ≡ message_if (is_message v) (device_in v) (message_in v)
unfolding message_of_numbers
message_is v = ⊎_elim
    (λ e. rw e refl)
    (λ e. rw e (⊎_elim
    (λ f. whole_is v (get_or v 0 0) f ∙ rw f refl)
    (λ f. given_none (value type.Device (get_or v 1 0)) (misfit type.Device) _ f ∙ rw f refl)
    (cases_Bool (fit type.Device (get_or v 1 0)))))
    (cases_Bool (ltb (length v) 2))

-- ---- a number that fits a type, or does not

-- a number below a limit, and one that is not
below_fits : (n x : ℕ) → x < n → is_some (below n x) ≡ true
below_fits n x h = rw (lt-ltb x n h)

above_misfits : (n x : ℕ) → n ≤ x → is_some (below n x) ≡ false
above_misfits n x h = rw (le-ltb x n h)

module _ (x : ℕ) where
  pub device_fits : x ≤ 256 → fit type.Device x ≡ true
  device_fits h = ⊎_elim
      (λ (e : ltb x 256 ≡ true). rw (ne_eqb x 256 (λ z. omega (arith, ltb-true x 256 e)), lt-ltb x (2 ^ 8) (omega (arith, ltb-true x 256 e))))
      (λ (e : ltb x 256 ≡ false). let z : x ≡ 256 = omega (arith, ltb-false x 256 e) in rw z)
      (cases_Bool (ltb x 256))

  pub device_misfits : 256 < x → fit type.Device x ≡ false
  device_misfits h = rw (ne_eqb x 256 (λ z. omega arith), le-ltb x (2 ^ 8) (omega arith))

  pub fits_8 : x ≤ 255 → fit type.U8 x ≡ true
  fits_8 h = below_fits (2 ^ 8) x (omega arith)

  pub misfits_8 : 255 < x → fit type.U8 x ≡ false
  misfits_8 h = above_misfits (2 ^ 8) x (omega arith)

  pub below_8 : ltb x 256 ≡ pick (fit type.U8 x) true false
  below_8 = ⊎_elim (λ (e : ltb x 256 ≡ true). rw e) (λ (e : ltb x 256 ≡ false). rw e) (cases_Bool (ltb x 256))

  pub fits_16 : x ≤ 65535 → fit type.U16 x ≡ true
  fits_16 h = below_fits (2 ^ 16) x (omega arith)

  pub misfits_16 : 65535 < x → fit type.U16 x ≡ false
  misfits_16 h = above_misfits (2 ^ 16) x (omega arith)

  pub fits_32 : x ≤ 4294967295 → fit type.U32 x ≡ true
  fits_32 h = below_fits (2 ^ 32) x (omega arith)

  pub misfits_32 : 4294967295 < x → fit type.U32 x ≡ false
  misfits_32 h = above_misfits (2 ^ 32) x (omega arith)

-- ---- numbers of a length that no row has

-- the numbers that fit types are as many
many : (ts : List NumberType) (v : List ℕ) (i : ℕ) → i ≤ length v → fits ts v i ≡ true → length v ≡ i + length ts
many [] v i h e = omega (arith, leb-true (length v) i e)
many (t ∷ ts) v i h e = ⊎_elim
    (λ (f : ltb i (length v) ≡ true). ⊎_elim
    (λ (g : fit t (get_or v i 0) ≡ true). let q = many ts v (suc i) (ltb-true i (length v) f) (rw (f, g) at e) in omega (arith, q))
    (λ (g : fit t (get_or v i 0) ≡ false). absurd (false_true (rw (f, g) at e)))
    (cases_Bool (fit t (get_or v i 0))))
    (λ (f : ltb i (length v) ≡ false). absurd (false_true (rw f at e)))
    (cases_Bool (ltb i (length v)))

-- no message where the fields are more or fewer
pub other_length : (v : List ℕ) (ts : List NumberType) → fits_any (rows_of (get_or v 0 0)) v ≡ fits ts v 2 → (length v ≡ 2 + length ts → ⊥) → false ≡ is_message v
other_length v ts q n = ⊎_elim
    (λ (e : ltb (length v) 2 ≡ true). rw e)
    (λ (e : ltb (length v) 2 ≡ false). rw (e, q) (⊎_elim
    (λ (f : fits ts v 2 ≡ true). absurd (n (many ts v 2 (ltb-false (length v) 2 e) f)))
    (λ (f : fits ts v 2 ≡ false). rw f (either (fit type.Device (get_or v 1 0))))
    (cases_Bool (fits ts v 2))))
    (cases_Bool (ltb (length v) 2))

-- ---- numbers of one type, to the last

module _ (v : List ℕ) (t : NumberType) where
  each_fits : (n i : ℕ) → i + n ≡ length v → ((k : ℕ) → i ≤ k → k < length v → fit t (get_or v k 0) ≡ true) → fits (replicate n t) v i ≡ true
  each_fits zero i e h = rw (le-leb (length v) i (omega arith))
  each_fits (suc n) i e h =
      rw (lt-ltb i (length v) (omega arith), h i (omega arith) (omega arith)) (each_fits n (suc i) (omega arith) (λ k a b. h k (omega arith) b))

  one_misfits : (n i k : ℕ) → i + n ≡ length v → i ≤ k → k < length v → fit t (get_or v k 0) ≡ false → fits (replicate n t) v i ≡ false
  one_misfits zero i k e a b f = absurd (omega arith)
  one_misfits (suc n) i k e a b f = ⊎_elim
      (λ (q : eqb i k ≡ true). let z : i ≡ k = eqb-true i k q in rw (lt-ltb i (length v) (omega arith), z, f))
      (λ (q : eqb i k ≡ false).
      let z : i ≡ k → ⊥ = eqb-false i k q in
      rw (lt-ltb i (length v) (omega arith), one_misfits n (suc i) k (omega arith) (omega arith) b f) (sym (either (fit t (get_or v i 0)))))
      (cases_Bool (eqb i k))

  -- the answer of a test of each number of a slice, those from a place on
  pub all_fit : (n i : ℕ) (r : Bool) (s : List ℕ) → s ≡ drop i v → i + n ≡ length v → (r ≡ true → (k : ℕ) → k < length s → fit t (get_or s k 0) ≡ true)
      → (r ≡ false → (k : ℕ) × (k < length s) × (fit t (get_or s k 0) ≡ false)) → r ≡ fits (replicate n t) v i
  all_fit n i true s q e h g =
      sym (each_fits n i e (λ k a b.
      let z : i + (k - i) ≡ k = omega arith in
      let w : get_or s (k - i) 0 ≡ get_or v k 0 = ap (λ (l : List ℕ). get_or l (k - i) 0) q ∙ get_or-drop i v (k - i) 0 ∙ ap (λ (j : ℕ). get_or v j 0) z in
      rw w at (h refl (k - i) (omega (arith, ap length q, length-drop i v)))))
  all_fit n i false s q e h g =
      let x = g refl in
      let w : get_or s x.0 0 ≡ get_or v (i + x.0) 0 = ap (λ (l : List ℕ). get_or l x.0 0) q ∙ get_or-drop i v x.0 0 in
      sym (one_misfits n i (i + x.0) e (omega arith) (omega (arith, x.1, ap length q, length-drop i v)) (rw w at x.2))

-- ---- what is answered

module _ (v text entries out : List ℕ) (place : ℕ) where
  -- a message was written, or refused
  pub wrote : (d : DeviceID) (m : UniversalNonRealTimeMsg) → message_of_numbers v ≡ Some (d, m) → (w : Result ℕ Refusal) (out' : List ℕ)
      → w ≡ written_at (write_of (message_of d m text entries)) (length out) place → out' ≡ output_after (write_of (message_of d m text entries)) out place
      → (as_answer w ≡ write_answer v text entries out place) × (out' ≡ write_output v text entries out place)
  wrote d m e w out' p o = (
    ap as_answer p ∙ ap (λ (x : Made). made_answer x text entries out place) (sym e),
    o ∙ ap (λ (x : Made). made_output x text entries out place) (sym e),
  )

  -- the numbers are no message
  pub unwritten : message_of_numbers v ≡ None → (Err NoMessage ≡ write_answer v text entries out place) × (out ≡ write_output v text entries out place)
  unwritten e = (
    ap (λ (x : Made). made_answer x text entries out place) (sym e),
    ap (λ (x : Made). made_output x text entries out place) (sym e),
  )

-- the number and the value of what is answered
number_by : (w : Result ℕ Refusal) → answer_number (as_answer w) ≡ written_number w
number_by (Ok n) = refl
number_by (Err r) = refl

value_by : (w : Result ℕ Refusal) → answer_value (as_answer w) ≡ written_value w
value_by (Ok n) = refl
value_by (Err r) = refl

module _ (text entries out : List ℕ) (place : ℕ) where
  made_number_is : (x : Made) → answer_number (made_answer x text entries out place) ≡ made_number x text entries out place
  made_number_is (Some x) = number_by (written_at (write_of (message_of x.0 x.1 text entries)) (length out) place)
  made_number_is None = refl

  made_value_is : (x : Made) → answer_value (made_answer x text entries out place) ≡ made_value x text entries out place
  made_value_is (Some x) = value_by (written_at (write_of (message_of x.0 x.1 text entries)) (length out) place)
  made_value_is None = refl

  pub number_is : (v : List ℕ) → answer_number (write_answer v text entries out place) ≡ write_number v text entries out place
  number_is v = made_number_is (message_of_numbers v)

  pub value_is : (v : List ℕ) → answer_value (write_answer v text entries out place) ≡ write_value v text entries out place
  value_is v = made_value_is (message_of_numbers v)

-- the numbers of a head code that are a message, and those that are none
module _ (v : List ℕ) where
  pub made_by : (k : ℕ) → get_or v 0 0 ≡ k → is_message v ≡ true → message_of_numbers v ≡ Some (device_in v, first_message (rows_of k) v)
  made_by k q e =
      message_is v ∙ ap (λ (b : Bool). message_if b (device_in v) (message_in v)) e ∙ ap (λ (j : ℕ). Some (device_in v, first_message (rows_of j) v)) q

  pub made_not : is_message v ≡ false → message_of_numbers v ≡ None
  made_not e = message_is v ∙ ap (λ (b : Bool). message_if b (device_in v) (message_in v)) e
