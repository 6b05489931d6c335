-- The number of a representable value says that value.
-- Assumes nothing.
use mathlib.Core.Path.{◌≡◌, refl}
use mathlib.Core.Bool.{true, false}
use mathlib.Core.Option.{some}
use Prim.Native.Nat.{ℕ, ◌+◌, ◌*◌, ◌-◌, ◌/◌, ◌%◌, ◌^◌, ◌≤◌}
use native.Mathlib.Omega.{arith}
use lib.Dec.{lit≤}
use lib.IntN.{ℤ, pos, negsuc}
use borrow.Author.Tests.{lt-ltb, le-ltb, ne_eqb}
use Rattle.numbers_to_message.specs.declared.fit.NumberType.{NumberType}
use Rattle.numbers_to_message.specs.declared.fit.NumberType.TheVariants as type
use Rattle.numbers_to_message.proofs.Loops.{loop_back, extended_loop_back}
use Rattle.numbers_to_message.specs.Values.{Value, value, signed, signed_number_of, file_number_of}
use Rattle.messages.specs.declared.system_exclusive.DeviceID.TheVariants.{Device, AllCall}
use Rattle.std.specs.Prelude.{Some, None}
use mathlib.Core.List.{List, [], ◌∷◌}
use Rattle.messages.specs.declared.sample_dump.LoopNumber.TheVariants.{Loop, RequestAll, DeleteAll}
use Rattle.messages.specs.declared.file_dump.FileType.TheVariants.{MIDI, MIEX, ESEQ, TEXT, BIN, MAC, Custom}
use Rattle.messages.specs.declared.file_reference.FileReferenceType.TheVariants as reference
use Rattle.numbers_of_message.specs.Numbers.{number}
use Rattle.numbers_of_message.specs.Representable.{Within, Representable}

signed_back : (n : ℕ) (z : ℤ) → n ≤ 2 ^ 63 → Within n z → signed n (signed_number_of z) ≡ some z
signed_back n (pos k) r h = rw (lt-ltb k n h)
signed_back n (negsuc k) r h =
    let x = 2 ^ 64 - 1 - k in
    let e : 2 ^ 64 - 1 - x ≡ k = omega arith in
    rw (le-ltb x n (omega arith), le-ltb x (2 ^ 64 - n) (omega arith), e)

custom_back : (l : List ℕ) → Representable type.FileType (Custom l) → value type.FileType (file_number_of (Custom l)) ≡ some (Custom l)
custom_back [] h = absurd (omega (arith, h.0))
custom_back (a ∷ []) h = absurd (omega (arith, h.0))
custom_back (a ∷ b ∷ []) h = absurd (omega (arith, h.0))
custom_back (a ∷ b ∷ c ∷ []) h = absurd (omega (arith, h.0))
custom_back (a ∷ b ∷ c ∷ d ∷ e ∷ l) h = absurd (omega (arith, h.0))
custom_back (a ∷ b ∷ c ∷ d ∷ []) h =
    let x = ((a * 256 + b) * 256 + c) * 256 + d in
    let ha = h.1.0 in
    let hb = h.1.1 in
    let hc = h.1.2 in
    let hd = h.1.3 in
    let ea : x / 2 ^ 24 ≡ a = omega arith in
    let eb : x / 2 ^ 16 % 256 ≡ b = omega arith in
    let ec : x / 2 ^ 8 % 256 ≡ c = omega arith in
    let ed : x % 256 ≡ d = omega arith in
    rw (lt-ltb x (2 ^ 32) (omega arith), h.2, ea, eb, ec, ed)

pub value_back : (t : NumberType) (v : Value t) → Representable t v → value t (number t v) ≡ some v
value_back type.U8 n h = rw (lt-ltb n (2 ^ 8) h)
value_back type.U16 n h = rw (lt-ltb n (2 ^ 16) h)
value_back type.U32 n h = rw (lt-ltb n (2 ^ 32) h)
value_back type.U64 n h = refl
value_back type.I8 z h = signed_back (2 ^ 7) z (lit≤ tt) h
value_back type.I16 z h = signed_back (2 ^ 15) z (lit≤ tt) h
value_back type.Flag true h = refl
value_back type.Flag false h = refl
value_back type.Device (Device n) h = rw (ne_eqb n 256 (λ e. omega arith), lt-ltb n (2 ^ 8) h)
value_back type.Device AllCall h = refl
value_back type.RequestedLoop (Loop n) h = rw (ne_eqb n 65536 (λ e. omega arith), lt-ltb n (2 ^ 16) h)
value_back type.RequestedLoop RequestAll h = refl
value_back type.RequestedLoop DeleteAll h = absurd h
value_back type.TransmittedLoop (Loop n) h = rw (ne_eqb n 65536 (λ e. omega arith), lt-ltb n (2 ^ 16) h)
value_back type.TransmittedLoop RequestAll h = absurd h
value_back type.TransmittedLoop DeleteAll h = refl
value_back type.LoopType t h = loop_back t
value_back type.ExtendedLoopType t h = extended_loop_back t
value_back type.FileType MIDI h = refl
value_back type.FileType MIEX h = refl
value_back type.FileType ESEQ h = refl
value_back type.FileType TEXT h = refl
value_back type.FileType BIN h = refl
value_back type.FileType MAC h = refl
value_back type.FileType (Custom l) h = custom_back l h
value_back type.ReferenceType reference.DLS h = refl
value_back type.ReferenceType reference.SF2 h = refl
value_back type.ReferenceType reference.WAV h = refl
value_back type.BankOrNone (Some n) h = rw (ne_eqb n 256 (λ e. omega arith), lt-ltb n (2 ^ 8) h)
value_back type.BankOrNone None h = refl
value_back type.Zero u h = refl
value_back type.One u h = refl
value_back type.Two u h = refl
value_back type.Three u h = refl
