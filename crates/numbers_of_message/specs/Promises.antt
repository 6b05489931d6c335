-- What the numbers promise, as propositions: the theorems of proofs/ have these types.
use Rattle.std.specs.Prelude.{◌≡◌, ◌↔◌, Some, List, ℕ}
use Rattle.std.proofs.Math.Option.{some}
use Rattle.messages.specs.Messages.{Settled}
use Rattle.messages.specs.MessageOf.{message_of}
use Rattle.numbers_to_message.specs.declared.fit.NumberType.{NumberType}
use Rattle.numbers_to_message.specs.Values.{Value, value}
use Rattle.numbers_to_message.specs.Types.{DeviceID, UniversalNonRealTimeMsg}
use Rattle.numbers_to_message.specs.Table.{message_of_numbers}
use Rattle.numbers_of_message.specs.Numbers.{number, numbers_of}
use Rattle.numbers_of_message.specs.Representable.{Representable, MessageRepresentable}

-- the numbers of a message, where its fields are representable, are read as that message
abbrev pub NumbersBack : Type 0
NumbersBack = (d : DeviceID) (m : UniversalNonRealTimeMsg) → MessageRepresentable d m → message_of_numbers (numbers_of d m) ≡ Some (d, m)

-- a field is representable just where its number says it
abbrev pub RepresentableExactly : Type 0
RepresentableExactly = (t : NumberType) (v : Value t) → Representable t v ↔ (value t (number t v) ≡ some v)

-- the fields of a settled message are representable
abbrev pub SettledRepresentable : Type 0
SettledRepresentable = (d : DeviceID) (m : UniversalNonRealTimeMsg) (text entries : List ℕ) → Settled (message_of d m text entries) → MessageRepresentable d m
