-- The message of numbers by place: whether there is one, and which.
use Rattle.std.specs.Prelude.{Bool, false, ◌≡◌, List, [], ◌∷◌, ℕ, ltb, length, get_or}
use Rattle.util.specs.Pick.{pick}
use Rattle.numbers_to_message.specs.declared.fit.NumberType.TheVariants as type
use Rattle.messages.specs.declared.system_exclusive.DeviceID.{DeviceID}
use Rattle.messages.specs.declared.system_exclusive.UniversalNonRealTimeMsg.{UniversalNonRealTimeMsg}
use Rattle.numbers_to_message.specs.Table.{rows_of}
use Rattle.numbers_to_message.specs.Fits.{fit, fits, taken, fits_any, first_message}

-- whether device and fields fit their types
abbrev pub is_message : List ℕ → Bool
is_message v = pick (ltb (length v) 2) false (pick (fit type.Device (get_or v 1 0)) (fits_any (rows_of (get_or v 0 0)) v) false)

-- the device that the second number says
abbrev pub device_in : List ℕ → DeviceID
device_in v = taken type.Device (get_or v 1 0)

-- the message by the first row of the head code that the numbers fit, or by the last
abbrev pub message_in : List ℕ → UniversalNonRealTimeMsg
message_in v = first_message (rows_of (get_or v 0 0)) v

-- the head of numbers has one field, of one byte
abbrev pub OneByte : List ℕ → Type 0
OneByte v = fits_any (rows_of (get_or v 0 0)) v ≡ fits (type.U8 ∷ []) v 2
