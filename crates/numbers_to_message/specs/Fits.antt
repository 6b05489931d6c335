-- Numbers by place: whether they fit a row, and the values of those that fit.
use Rattle.std.specs.Prelude as std
use Rattle.std.specs.Prelude.{Some, None, Result, Ok, Err, Bool, true, false, List, [], ◌∷◌, ℕ, suc, leb, ltb, pos, length, get_or}
use Rattle.std.proofs.Math.Option.{Option, none, some}
use Rattle.util.specs.Pick.{pick}
use Rattle.numbers_to_message.specs.Types.{NumberType, DeviceID, UniversalNonRealTimeMsg, Made}
use Rattle.numbers_to_message.specs.Values.{Value, value, or_else}
use Rattle.numbers_to_message.specs.Rows.{Fun, Row}
use Rattle.numbers_to_message.specs.declared.fit.NumberType.TheVariants as type
use Rattle.messages.specs.declared.system_exclusive.DeviceID.TheVariants.{Device}
use Rattle.messages.specs.declared.system_exclusive.UniversalNonRealTimeMsg.TheVariants as msg
use Rattle.messages.specs.declared.sample_dump.LoopNumber.TheVariants.{Loop}
use Rattle.messages.specs.declared.sample_dump.LoopType.TheVariants as loop
use Rattle.messages.specs.declared.sample_dump.ExtendedLoopType.TheVariants as ext
use Rattle.messages.specs.declared.file_dump.FileType.TheVariants.{MIDI}
use Rattle.messages.specs.declared.file_reference.FileReferenceType.TheVariants as reference

-- what stands for a number that does not fit
abbrev pub misfit : (t : NumberType) → Value t
misfit type.U8 = 0
misfit type.U16 = 0
misfit type.U32 = 0
misfit type.U64 = 0
misfit type.I8 = pos 0
misfit type.I16 = pos 0
misfit type.Flag = false
misfit type.Device = Device 0
misfit type.RequestedLoop = Loop 0
misfit type.TransmittedLoop = Loop 0
misfit type.LoopType = loop.Off
misfit type.ExtendedLoopType = ext.OneShot
misfit type.FileType = MIDI
misfit type.ReferenceType = reference.WAV
misfit type.BankOrNone = Some 0
misfit type.Zero = tt
misfit type.One = tt
misfit type.Two = tt
misfit type.Three = tt

-- an option of the definitions as one of the code
abbrev pub option_of : {A : Type 0} → Option A → std.Option A
option_of none = None
option_of (some a) = Some a

abbrev pub is_some : {A : Type 0} → Option A → Bool
is_some none = false
is_some (some a) = true

abbrev pub fit : NumberType → ℕ → Bool
fit t x = is_some (value t x)

abbrev pub taken : (t : NumberType) → ℕ → Value t
taken t x = or_else (value t x) (misfit t)

-- whether the numbers from place i on are one for each type, and fit
abbrev pub fits : List NumberType → List ℕ → ℕ → Bool
fits [] v i = leb (length v) i
fits (t ∷ ts) v i = pick (ltb i (length v)) (pick (fit t (get_or v i 0)) (fits ts v (suc i)) false) false

-- what is made of the numbers from place i on
abbrev pub made : (ts : List NumberType) → Fun ts UniversalNonRealTimeMsg → List ℕ → ℕ → UniversalNonRealTimeMsg
made [] m v i = m
made (t ∷ ts) m v i = made ts (m (taken t (get_or v i 0))) v (suc i)

abbrev pub message_if : Bool → DeviceID → UniversalNonRealTimeMsg → Made
message_if b d m = pick b (Some (d, m)) None

-- the message of a row
abbrev pub row_message : Row → List ℕ → UniversalNonRealTimeMsg
row_message r v = made r.types r.make v 2

abbrev pub row_fits : Row → List ℕ → Bool
row_fits r v = fits r.types v 2

-- whether the numbers fit one of some rows
abbrev pub fits_any : List Row → List ℕ → Bool
fits_any [] v = false
fits_any (r ∷ []) v = row_fits r v
fits_any (r ∷ s ∷ rs) v = pick (row_fits r v) true (fits_any (s ∷ rs) v)

-- the message by the first of some rows that the numbers fit, or by the last
abbrev pub first_message : List Row → List ℕ → UniversalNonRealTimeMsg
first_message [] v = msg.EOF
first_message (r ∷ []) v = row_message r v
first_message (r ∷ s ∷ rs) v = pick (row_fits r v) (row_message r v) (first_message (s ∷ rs) v)

-- a message: Ok where the numbers fit its types
abbrev pub fitting : List NumberType → List ℕ → UniversalNonRealTimeMsg → Result UniversalNonRealTimeMsg UniversalNonRealTimeMsg
fitting ts v m = pick (fits ts v 2) (Ok m) (Err m)

-- the message of some rows: Ok where the numbers fit one
abbrev pub answer : List Row → List ℕ → Result UniversalNonRealTimeMsg UniversalNonRealTimeMsg
answer rs v = pick (fits_any rs v) (Ok (first_message rs v)) (Err (first_message rs v))
