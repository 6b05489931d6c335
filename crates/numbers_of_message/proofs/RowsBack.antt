-- The numbers of representable fields are read by the row of their types as those fields.
-- Assumes nothing.
use mathlib.Core.Path.{◌≡◌, refl, ap, ◌∙◌}
use mathlib.Core.Bool.{Bool}
use mathlib.Core.List.{List, [], ◌∷◌, ◌++◌}
use mathlib.Core.Option.{Option}
use Prim.Native.Nat.{ℕ, suc}
use native.Mathlib.Omega.{arith}
use lib.ListN.{length}
use borrow.Author.Tests.{le-ltb}
use Rattle.util.specs.Pick.{pick}
use Rattle.numbers_to_message.specs.declared.fit.NumberType.{NumberType}
use Rattle.numbers_to_message.specs.declared.fit.NumberType.TheVariants as type
use Rattle.std.specs.Prelude.{Some, None}
use Rattle.numbers_to_message.specs.Types.{DeviceID, UniversalNonRealTimeMsg}
use Rattle.numbers_to_message.specs.Values.{Value, value, device_number_of}
use Rattle.numbers_to_message.specs.Rows.{Fun, Row}
use Rattle.numbers_to_message.specs.Table.{given, read, read_first, rows_of, message_of_numbers}
use Rattle.numbers_of_message.specs.Numbers.{Field, field_numbers, coded, numbers_of}
use Rattle.numbers_of_message.specs.Representable.{Representable, AllRepresentable, MessageRepresentable}
use Rattle.numbers_of_message.proofs.ValuesBack.{value_back}

abbrev pub types : List Field → List NumberType
types [] = []
types (f ∷ l) = f.0 ∷ types l

-- what is made of fields
abbrev pub made : (l : List Field) → Fun (types l) UniversalNonRealTimeMsg → UniversalNonRealTimeMsg
made [] m = m
made (f ∷ l) m = made l (m f.1)

pub row_back : (l : List Field) (m : Fun (types l) UniversalNonRealTimeMsg) (d : DeviceID) → AllRepresentable l
    → read (types l) m d (field_numbers l) ≡ Some (d, made l m)
row_back [] m d h = refl
row_back (f ∷ l) m d h =
    ap (λ (o : Option (Value f.0)). given o (λ a. read (types l) (m a) d (field_numbers l))) (value_back f.0 f.1 h.0)
    ∙ row_back l (m f.1) d h.1

-- what is made of the first fields
abbrev pub after : (l : List Field) (ts : List NumberType) → Fun (types l ++ ts) UniversalNonRealTimeMsg → Fun ts UniversalNonRealTimeMsg
after [] ts m = m
after (f ∷ l) ts m = after l ts (m f.1)

-- the numbers after those of representable fields are read by the types after theirs
pub row_after : (l : List Field) (ts : List NumberType) (m : Fun (types l ++ ts) UniversalNonRealTimeMsg) (d : DeviceID) (xs : List ℕ) → AllRepresentable l
    → read (types l ++ ts) m d (field_numbers l ++ xs) ≡ read ts (after l ts m) d xs
row_after [] ts m d xs h = refl
row_after (f ∷ l) ts m d xs h =
    ap (λ (o : Option (Value f.0)). given o (λ a. read (types l ++ ts) (m a) d (field_numbers l ++ xs))) (value_back f.0 f.1 h.0)
    ∙ row_after l ts (m f.1) d xs h.1

-- a message is read by the rows of its head code
pub coded_back : (d : DeviceID) (m : UniversalNonRealTimeMsg) → Representable type.Device d
    → message_of_numbers (numbers_of d m) ≡ read_first (rows_of (coded m).0) d (field_numbers (coded m).1)
unfolding message_of_numbers numbers_of
coded_back d m h =
    let l = field_numbers (coded m).1 in
    ap (λ (b : Bool). pick b None (given (value type.Device (device_number_of d)) (λ e. read_first (rows_of (coded m).0) e l))) (le-ltb (suc (suc (length l))) 2 (omega arith))
    ∙ ap (λ (o : Option DeviceID). given o (λ e. read_first (rows_of (coded m).0) e l)) (value_back type.Device d h)

-- the message of the only row of its head code
pub one_back : (d : DeviceID) (m : UniversalNonRealTimeMsg) (f : Fun (types (coded m).1) UniversalNonRealTimeMsg) → MessageRepresentable d m
    → rows_of (coded m).0 ≡ record { types = types (coded m).1; make = f } ∷ [] → made (coded m).1 f ≡ m
    → message_of_numbers (numbers_of d m) ≡ Some (d, m)
one_back d m f h r e =
    coded_back d m h.0
    ∙ ap (λ (s : List Row). read_first s d (field_numbers (coded m).1)) r
    ∙ row_back (coded m).1 f d h.1
    ∙ ap (λ (n : UniversalNonRealTimeMsg). Some (d, n)) e
