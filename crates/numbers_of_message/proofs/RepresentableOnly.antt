-- A value is representable where its number says it.
-- Assumes nothing.
use mathlib.Core.Path.{◌≡◌, refl, sym, ap, ◌∙◌}
use mathlib.Core.Bool.{Bool, true, false}
use mathlib.Core.List.{List, [], ◌∷◌}
use mathlib.Core.Option.{Option, none, some}
use Prim.Native.Nat.{ℕ, ◌-◌, ◌/◌, ◌%◌, ◌^◌, ◌≤◌, ◌<◌}
use native.Mathlib.Omega.{arith}
use lib.Dec.{lit≤, ltb, eqb}
use lib.IntN.{ℤ, pos, negsuc}
use borrow.Author.Tests.{ltb-true, ltb-false}
use Rattle.util.specs.Pick.{pick}
use Rattle.util.specs.Options.{map_option}
use Rattle.util.proofs.Laws.Options.{some_none}
use Rattle.numbers_to_message.specs.declared.fit.NumberType.{NumberType}
use Rattle.numbers_to_message.specs.declared.fit.NumberType.TheVariants as type
use Rattle.numbers_to_message.specs.Values.{Value, value, numbered, or_else, spelled, file_number_of, signed_number_of}
use Rattle.messages.specs.Fields.{named_types}
use Rattle.messages.specs.declared.system_exclusive.DeviceID.TheVariants.{Device, AllCall}
use Rattle.std.specs.Prelude.{Some, None}
use lib.ListN.{length, get_or}
use Rattle.messages.specs.declared.sample_dump.LoopNumber.TheVariants.{Loop, RequestAll, DeleteAll}
use Rattle.messages.specs.declared.file_dump.FileType.{FileType}
use Rattle.messages.specs.declared.file_dump.FileType.TheVariants.{MIDI, MIEX, ESEQ, TEXT, BIN, MAC, Custom}
use Rattle.numbers_to_message.proofs.Files.{unspelled}
use Rattle.numbers_of_message.specs.Numbers.{number}
use Rattle.numbers_of_message.specs.Representable.{Within, Representable}

-- ---- numbers below a limit

below_only : (n x : ℕ) (b : Bool) → ltb x n ≡ b → pick b (some x) none ≡ some x → x < n
below_only n x true e h = ltb-true x n e
below_only n x false e h = absurd (let q : ◌≡◌ {A = ℕ} 0 1 = cc in omega arith)

-- a number apart from those below a limit, or one of those
apart_only : {A : Type 0} (m x : ℕ) (a : A) (f : ℕ → A) (b c : Bool) → ltb x m ≡ c → (a ≡ f x → ⊥)
    → pick b (some a) (map_option f (pick c (some x) none)) ≡ some (f x) → x < m
apart_only m x a f true c e differ h = let q : a ≡ f x = cc in absurd (differ q)
apart_only m x a f false true e differ h = ltb-true x m e
apart_only m x a f false false e differ h = absurd (let q : ◌≡◌ {A = ℕ} 0 1 = cc in omega arith)

-- ---- signed numbers

signed_only : (n : ℕ) (z : ℤ) (y : ℕ) (b c : Bool) → n ≤ 2 ^ 63 → ltb (signed_number_of z) n ≡ b → ltb (signed_number_of z) (2 ^ 64 - n) ≡ c
    → pick b (some (pos (signed_number_of z))) (pick c none (some (negsuc y))) ≡ some z → Within n z
signed_only n (pos k) y true c r e g h = ltb-true k n e
signed_only n (pos k) y false true r e g h = absurd (let q : ◌≡◌ {A = ℕ} 0 1 = cc in omega arith)
signed_only n (pos k) y false false r e g h = absurd (let q : ◌≡◌ {A = ℕ} 0 1 = cc in omega arith)
signed_only n (negsuc k) y true c r e g h = absurd (let q : ◌≡◌ {A = ℕ} 0 1 = cc in omega arith)
signed_only n (negsuc k) y false true r e g h = absurd (let q : ◌≡◌ {A = ℕ} 0 1 = cc in omega arith)
signed_only n (negsuc k) y false false r e g h = omega (arith, ltb-false (2 ^ 64 - 1 - k) (2 ^ 64 - n) g)

-- ---- file types

module _ (l : List ℕ) where
  spelled_only : (x : ℕ) (o : Option FileType) → x ≡ file_number_of (Custom l) → x < 2 ^ 32 → numbered file_number_of named_types x ≡ o
      → or_else o (Custom (x / 2 ^ 24 ∷ x / 2 ^ 16 % 256 ∷ x / 2 ^ 8 % 256 ∷ x % 256 ∷ [])) ≡ Custom l → Representable type.FileType (Custom l)
  spelled_only x (some t) e b g h = absurd (some_none (sym g ∙ unspelled x l (ap (λ (u : Option FileType). or_else u (Custom l)) g ∙ h)))
  spelled_only x none e b g h =
      let q : x / 2 ^ 24 ∷ x / 2 ^ 16 % 256 ∷ x / 2 ^ 8 % 256 ∷ x % 256 ∷ [] ≡ l = cc in
      let q0 = ap (λ (m : List ℕ). get_or m 0 0) q in
      let q1 = ap (λ (m : List ℕ). get_or m 1 0) q in
      let q2 = ap (λ (m : List ℕ). get_or m 2 0) q in
      let q3 = ap (λ (m : List ℕ). get_or m 3 0) q in
      (sym (ap length q), (omega (arith, q0), omega (arith, q1), omega (arith, q2), omega (arith, q3)), rw e at g)

  custom_only : (x : ℕ) (t : Bool) → x ≡ file_number_of (Custom l) → ltb x (2 ^ 32) ≡ t → map_option spelled (pick t (some x) none) ≡ some (Custom l)
      → Representable type.FileType (Custom l)
  custom_only x true e b h = spelled_only x (numbered file_number_of named_types x) e (ltb-true x (2 ^ 32) b) refl (cc)
  custom_only x false e b h = absurd (let q : ◌≡◌ {A = ℕ} 0 1 = cc in omega arith)

-- ---- each type

pub representable_only : (t : NumberType) (v : Value t) → value t (number t v) ≡ some v → Representable t v
representable_only type.U8 n h = below_only (2 ^ 8) n (ltb n (2 ^ 8)) refl h
representable_only type.U16 n h = below_only (2 ^ 16) n (ltb n (2 ^ 16)) refl h
representable_only type.U32 n h = below_only (2 ^ 32) n (ltb n (2 ^ 32)) refl h
representable_only type.U64 n h = tt
representable_only type.I8 z h = signed_only (2 ^ 7) z _ (ltb (signed_number_of z) (2 ^ 7)) (ltb (signed_number_of z) (2 ^ 64 - 2 ^ 7)) (lit≤ tt) refl refl h
representable_only type.I16 z h = signed_only (2 ^ 15) z _ (ltb (signed_number_of z) (2 ^ 15)) (ltb (signed_number_of z) (2 ^ 64 - 2 ^ 15)) (lit≤ tt) refl refl h
representable_only type.Flag b h = tt
representable_only type.Device (Device n) h = apart_only (2 ^ 8) n AllCall Device (eqb n 256) (ltb n (2 ^ 8)) refl (λ e. let q : ◌≡◌ {A = ℕ} 0 1 = cc in omega arith) h
representable_only type.Device AllCall h = tt
representable_only type.RequestedLoop (Loop n) h = apart_only (2 ^ 16) n RequestAll Loop (eqb n 65536) (ltb n (2 ^ 16)) refl (λ e. let q : ◌≡◌ {A = ℕ} 0 1 = cc in omega arith) h
representable_only type.RequestedLoop RequestAll h = tt
representable_only type.RequestedLoop DeleteAll h = let q : ◌≡◌ {A = ℕ} 0 1 = cc in omega arith
representable_only type.TransmittedLoop (Loop n) h = apart_only (2 ^ 16) n DeleteAll Loop (eqb n 65536) (ltb n (2 ^ 16)) refl (λ e. let q : ◌≡◌ {A = ℕ} 0 1 = cc in omega arith) h
representable_only type.TransmittedLoop RequestAll h = let q : ◌≡◌ {A = ℕ} 0 1 = cc in omega arith
representable_only type.TransmittedLoop DeleteAll h = tt
representable_only type.LoopType t h = tt
representable_only type.ExtendedLoopType t h = tt
representable_only type.FileType MIDI h = tt
representable_only type.FileType MIEX h = tt
representable_only type.FileType ESEQ h = tt
representable_only type.FileType TEXT h = tt
representable_only type.FileType BIN h = tt
representable_only type.FileType MAC h = tt
representable_only type.FileType (Custom l) h = custom_only l (file_number_of (Custom l)) (ltb (file_number_of (Custom l)) (2 ^ 32)) refl refl h
representable_only type.ReferenceType t h = tt
representable_only type.BankOrNone (Some n) h = apart_only (2 ^ 8) n None Some (eqb n 256) (ltb n (2 ^ 8)) refl (λ e. let q : ◌≡◌ {A = ℕ} 0 1 = cc in omega arith) h
representable_only type.BankOrNone None h = tt
representable_only type.Zero u h = tt
representable_only type.One u h = tt
representable_only type.Two u h = tt
representable_only type.Three u h = tt
