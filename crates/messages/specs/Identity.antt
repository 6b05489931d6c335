-- Identity reading (01, "Beside the walk"), of the bytes l "from the head on": a row for each clause, in 01's order.
use Rattle.std.specs.Prelude.{Result, Ok, Err, Bool, not, ◌&&◌, ◌||◌, List, [], ◌∷◌, ◌++◌, ℕ, ◌+◌, eqb, ltb, length, take, drop, get_or}
use Rattle.std.proofs.Math.Option.{Option, none, some}
use Rattle.util.specs.Groups.{seven, value}
use Rattle.util.specs.Pick.{pick}
use Rattle.messages.specs.Types.{Refusal, IdentityReply, ManufacturerID}
use Rattle.util.specs.declared.refusal.Refusal.TheVariants.{UnexpectedEnd, ByteOverflow, NotImplemented}
use Rattle.messages.specs.declared.system_exclusive.ManufacturerID.TheVariants.{OneByte, Extended}
use Rattle.util.specs.Refusals.{number}
use Rattle.messages.specs.Structures.{AfterMaker, reply}

-- a row: whether it applies, and its refusal
abbrev pub Row : Type 0
Row = Bool × Refusal

-- the refusal of the first row that applies; the value where none does
abbrev pub first_of : {A : Type 0} → List Row → A → Result A Refusal
first_of [] a = Ok a
first_of (x ∷ xs) a = pick x.0 (Err x.1) (first_of xs a)

-- its number, 0 where none does
abbrev pub first_number : List Row → ℕ
first_number [] = 0
first_number (x ∷ xs) = pick x.0 (number x.1) (first_number xs)

abbrev pub over_7F : ℕ → Bool
over_7F b = ltb 0x7F b

-- "maker byte 00": the maker is it and "two bytes after it", else the one byte
abbrev pub maker_00 : List ℕ → Bool
maker_00 l = eqb (get_or l 2 0) 0x00

abbrev pub maker : List ℕ → ManufacturerID
maker l = pick (maker_00 l) (Extended (get_or l 3 0) (get_or l 4 0)) (OneByte (get_or l 2 0))

-- where the maker ends
abbrev pub maker_end : List ℕ → ℕ
maker_end l = pick (maker_00 l) 5 3

-- from i on: family and member, lowest group first, and the four revision bytes as they stand
abbrev pub numbers_from : List ℕ → ℕ → AfterMaker
numbers_from l i = (value (take 2 (drop i l)), (value (take 2 (drop (i + 2) l)), (get_or l (i + 4) 0, (get_or l (i + 5) 0, (get_or l (i + 6) 0, get_or l (i + 7) 0)))))

-- "under 8 bytes after the maker 13; family or member group over 7F, 14. Revision bytes are not tested and trailing bytes are ignored"
abbrev pub rows_after_maker : List ℕ → ℕ → List Row
rows_after_maker l i =
    (ltb (length l) (i + 8), UnexpectedEnd)
    ∷ (not (seven (take 4 (drop i l))), ByteOverflow)
    ∷ []

-- "no maker byte 13; maker byte over 7F, 14; maker byte 00 with fewer than two bytes after it 13; either of those two over 7F, 14"
abbrev pub maker_rows : List ℕ → List Row
maker_rows l =
    (ltb (length l) 3, UnexpectedEnd)
    ∷ (over_7F (get_or l 2 0), ByteOverflow)
    ∷ (maker_00 l && ltb (length l) 5, UnexpectedEnd)
    ∷ (maker_00 l && (over_7F (get_or l 3 0) || over_7F (get_or l 4 0)), ByteOverflow)
    ∷ []

-- "Under 2 bytes 13; head not 06 02, 15"
abbrev pub rows : List ℕ → List Row
rows l =
    (ltb (length l) 2, UnexpectedEnd)
    ∷ (not (eqb (get_or l 0 0) 0x06 && eqb (get_or l 1 0) 0x02), NotImplemented)
    ∷ maker_rows l ++ rows_after_maker l (maker_end l)

abbrev pub reply_in : List ℕ → IdentityReply
reply_in l = reply (maker l) (numbers_from l (maker_end l))

-- the reply of the bytes from the head on, or a refusal
unfoldable pub identity_of : List ℕ → Result IdentityReply Refusal
identity_of l = first_of (rows l) (reply_in l)

-- 01's number: "Where nothing is refused the number is 0"
abbrev pub identity_number : Result IdentityReply Refusal → ℕ
identity_number (Ok r) = 0
identity_number (Err r) = number r

-- 01's value: "each reading the message"
abbrev pub identity_value : Result IdentityReply Refusal → Option IdentityReply
identity_value (Ok r) = some r
identity_value (Err r) = none
