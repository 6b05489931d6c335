-- What a number of a message says by its type: a value, or nothing.
use Rattle.std.specs.Prelude.{Bool, true, false, List, [], ◌∷◌, ℕ, ◌+◌, ◌*◌, ◌-◌, ◌/◌, ◌%◌, ◌^◌, ltb, eqb, ℤ, pos, negsuc, Some, None}
use Rattle.std.specs.Prelude as std
use Rattle.std.proofs.Math.Option.{Option, none, some}
use Rattle.util.specs.Pick.{pick}
use Rattle.util.specs.Options.{map_option}
use Rattle.messages.specs.Fields.{bit, type_chars, named_types}
use Rattle.messages.specs.Structures.{loop_byte, extended_loop_byte}
use Rattle.numbers_to_message.specs.Types.{NumberType, DeviceID, LoopNumber, LoopType, ExtendedLoopType, FileType, FileReferenceType}
use Rattle.numbers_to_message.specs.declared.fit.NumberType.TheVariants as type
use Rattle.messages.specs.declared.system_exclusive.DeviceID.TheVariants.{Device, AllCall}
use Rattle.messages.specs.declared.sample_dump.LoopNumber.TheVariants.{Loop, RequestAll, DeleteAll}
use Rattle.messages.specs.declared.sample_dump.LoopType.TheVariants as loop
use Rattle.messages.specs.declared.sample_dump.ExtendedLoopType.TheVariants as ext
use Rattle.messages.specs.declared.file_dump.FileType.TheVariants.{Custom}
use Rattle.messages.specs.declared.file_reference.FileReferenceType.TheVariants as reference

-- ---- the number of a value that is no number

-- "type (four bytes, first highest)"
abbrev pub file_number_of : FileType → ℕ
file_number_of t = (((type_chars t).0 * 256 + (type_chars t).1.0) * 256 + (type_chars t).1.1.0) * 256 + (type_chars t).1.1.1

-- "file type (0 DLS, 1 SF2, 2 WAV)"
abbrev pub reference_number_of : FileReferenceType → ℕ
reference_number_of reference.DLS = 0
reference_number_of reference.SF2 = 1
reference_number_of reference.WAV = 2

-- "Signed fields are in two's complement of 64 bits": negsuc n is -(n + 1)
abbrev pub signed_number_of : ℤ → ℕ
signed_number_of (pos n) = n
signed_number_of (negsuc n) = 2 ^ 64 - 1 - n

-- "Device: 0 to 255, 256 for all call"
abbrev pub device_number_of : DeviceID → ℕ
device_number_of (Device n) = n
device_number_of AllCall = 256

-- "loop number (65536 all)"
abbrev pub loop_index_of : LoopNumber → ℕ
loop_index_of (Loop n) = n
loop_index_of RequestAll = 65536
loop_index_of DeleteAll = 65536

-- "bank (256 none)"
abbrev pub bank_number_of : std.Option ℕ → ℕ
bank_number_of (Some n) = n
bank_number_of None = 256

-- ---- the value that a number says

-- a number below a limit
abbrev pub below : ℕ → ℕ → Option ℕ
below n x = pick (ltb x n) (some x) none

-- the first of some values that has the number
abbrev pub numbered : {A : Type 0} → (A → ℕ) → List A → ℕ → Option A
numbered f [] x = none
numbered f (a ∷ l) x = pick (eqb x (f a)) (some a) (numbered f l x)

-- a number with a meaning of its own, or another
abbrev pub apart : {A : Type 0} → ℕ → A → (ℕ → Option A) → ℕ → Option A
apart n a f x = pick (eqb x n) (some a) (f x)

-- a number from -n to n - 1 in two's complement of 64 bits
abbrev pub signed : ℕ → ℕ → Option ℤ
signed n x = pick (ltb x n) (some (pos x)) (pick (ltb x (2 ^ 64 - n)) none (some (negsuc (2 ^ 64 - 1 - x))))

abbrev pub or_else : {A : Type 0} → Option A → A → A
or_else none b = b
or_else (some a) b = a

-- a named type where its four bytes are spelled
abbrev pub spelled : ℕ → FileType
spelled x = or_else (numbered file_number_of named_types x) (Custom (x / 2 ^ 24 ∷ x / 2 ^ 16 % 256 ∷ x / 2 ^ 8 % 256 ∷ x % 256 ∷ []))

abbrev pub loop_types : List LoopType
loop_types = loop.Forward ∷ loop.BiDirectional ∷ loop.Off ∷ []

abbrev pub extended_loop_types : List ExtendedLoopType
extended_loop_types = ext.Forward ∷ ext.BiDirectional ∷ ext.ForwardRelease ∷ ext.BiDirectionalRelease ∷ ext.Backward ∷ ext.BackwardBiDirectional ∷ ext.BackwardRelease ∷ ext.BackwardBiDirectionalRelease ∷ ext.BackwardOneShot ∷ ext.OneShot ∷ []

abbrev pub reference_types : List FileReferenceType
reference_types = reference.DLS ∷ reference.SF2 ∷ reference.WAV ∷ []

-- ---- the types

abbrev pub Value : NumberType → Type 0
Value type.U8 = ℕ
Value type.U16 = ℕ
Value type.U32 = ℕ
Value type.U64 = ℕ
Value type.I8 = ℤ
Value type.I16 = ℤ
Value type.Flag = Bool
Value type.Device = DeviceID
Value type.RequestedLoop = LoopNumber
Value type.TransmittedLoop = LoopNumber
Value type.LoopType = LoopType
Value type.ExtendedLoopType = ExtendedLoopType
Value type.FileType = FileType
Value type.ReferenceType = FileReferenceType
Value type.BankOrNone = std.Option ℕ
Value type.Zero = Unit {0}
Value type.One = Unit {0}
Value type.Two = Unit {0}
Value type.Three = Unit {0}

-- a loop, of which 65,536 says all
abbrev pub loop_value : LoopNumber → ℕ → Option LoopNumber
loop_value all x = apart 65536 all (λ n. map_option Loop (below (2 ^ 16) n)) x

-- each number of 64 bits is some U64
abbrev pub value : (t : NumberType) → ℕ → Option (Value t)
value type.U8 x = below (2 ^ 8) x
value type.U16 x = below (2 ^ 16) x
value type.U32 x = below (2 ^ 32) x
value type.U64 x = some x
value type.I8 x = signed (2 ^ 7) x
value type.I16 x = signed (2 ^ 15) x
value type.Flag x = numbered bit (false ∷ true ∷ []) x
value type.Device x = apart 256 AllCall (λ n. map_option Device (below (2 ^ 8) n)) x
value type.RequestedLoop x = loop_value RequestAll x
value type.TransmittedLoop x = loop_value DeleteAll x
value type.LoopType x = numbered loop_byte loop_types x
value type.ExtendedLoopType x = numbered extended_loop_byte extended_loop_types x
value type.FileType x = map_option spelled (below (2 ^ 32) x)
value type.ReferenceType x = numbered reference_number_of reference_types x
value type.BankOrNone x = apart 256 None (λ n. map_option Some (below (2 ^ 8) n)) x
value type.Zero x = numbered (λ u. 0) (tt ∷ []) x
value type.One x = numbered (λ u. 1) (tt ∷ []) x
value type.Two x = numbered (λ u. 2) (tt ∷ []) x
value type.Three x = numbered (λ u. 3) (tt ∷ []) x
