-- The kinds of field that the layouts name.
use Rattle.std.specs.Prelude.{◌≡◌, refl, Bool, true, false, ◌&&◌, Option, Some, None, List, [], ◌∷◌, ℕ, zero, suc, ◌+◌, ◌*◌, ◌≤◌, ◌^◌, leb, eqb, length, get_or, ℤ}
use Rattle.std.proofs.Common.{sym, ap, ◌∙◌, arith, lit<, lit≤, lt-ltb, le-leb, eqb-true}
use Rattle.std.proofs.Math.Option as maybe
use Rattle.std.proofs.Math.Option.{none}
use Rattle.util.specs.Groups.{Seven, seven, largest}
use Rattle.util.specs.Limits.{all_call, all_loops, least_format, most_format, most_maker, most_name, most_url}
use Rattle.util.specs.Fields.{fits_u28}
use Rattle.util.specs.Signed.{biased, unbiased}
use Rattle.util.proofs.Laws.Groups.{both_true, true_seven}
use Rattle.util.proofs.Laws.Signed.{biased_unbiased}
use Rattle.util.specs.Options.{unless}
use Rattle.messages.specs.Types.{Refusal, DeviceID, Tuning, LoopNumber, FileType}
use Rattle.util.specs.declared.refusal.Refusal.TheVariants.{High, Long, Value}
use Rattle.messages.specs.declared.system_exclusive.DeviceID.TheVariants.{Device, AllCall}
use Rattle.messages.specs.declared.sample_dump.LoopNumber.TheVariants.{Loop, RequestAll, DeleteAll}
use Rattle.messages.specs.declared.file_dump.FileType.TheVariants.{MIDI, MIEX, ESEQ, TEXT, BIN, MAC, Custom}
use Rattle.util.specs.Pick.{pick}
use Rattle.messages.specs.format.{Part, Whole, unsigned, unsigned_high, unsigned_high_below, ranged, ◌⊗◌, lit, via, refusing, such, exactly, counted, rest, all_settled, text, lookup, lookup_same}

-- ---- numbers

abbrev pub u7 : Part ℕ
u7 = unsigned 1

abbrev pub u14 : Part ℕ
u14 = unsigned 2

abbrev pub u21 : Part ℕ
u21 = unsigned 3

-- "2^28 or more is refused": 3 VALUE
abbrev pub u28 : Part ℕ
u28 = refusing (λ v. unless Value (fits_u28 v)) (unsigned 4) (λ v h. ap (unless Value) (lt-ltb v (128 ^ 4) h))

abbrev pub u35 : Part ℕ
u35 = unsigned 5

-- "format held to 8..28"
abbrev pub format : Part ℕ
format = ranged least_format most_format (lit≤ tt) (lit< tt)

-- "Signed 7: value + 64, held to 0..127"
abbrev pub s7 : Part ℤ
s7 = via (biased 64) (unbiased 64) u7 (λ v h. biased_unbiased 64 v)

-- "Signed 14: value + 8,192, held to 0..16,383, then written as u14"
abbrev pub s14 : Part ℤ
s14 = via (biased 8192) (unbiased 8192) u14 (λ v h. biased_unbiased 8192 v)

-- "three channel bytes": the sixteen channels as one number, its groups highest first
abbrev pub channels : Part ℕ
channels = unsigned_high_below 3 65536 (lit< tt) (lit≤ tt)

-- ---- flags: a bit each

abbrev pub bit : Bool → ℕ
bit true = 1
bit false = 0

abbrev pub is_set : ℕ → Bool
is_set zero = false
is_set (suc v) = true

pub is_set_bit : (v : ℕ) → (0 ≤ v) × (v ≤ 1) → bit (is_set v) ≡ v
is_set_bit zero h = refl
is_set_bit (suc zero) h = refl
is_set_bit (suc (suc v)) h = absurd (omega arith)

-- "drum flag"
abbrev pub flag : Part Bool
flag = via bit is_set (ranged 0 1 (lit≤ tt) (lit< tt)) is_set_bit

abbrev pub two_bits : Bool × Bool → ℕ
two_bits f = bit f.0 + 2 * bit f.1

abbrev pub bits_of : ℕ → Bool × Bool
bits_of zero = (false, false)
bits_of (suc zero) = (true, false)
bits_of (suc (suc zero)) = (false, true)
bits_of (suc (suc (suc v))) = (true, true)

pub bits_of_two : (v : ℕ) → (0 ≤ v) × (v ≤ 3) → two_bits (bits_of v) ≡ v
bits_of_two zero h = refl
bits_of_two (suc zero) h = refl
bits_of_two (suc (suc zero)) h = refl
bits_of_two (suc (suc (suc zero))) h = refl
bits_of_two (suc (suc (suc (suc v)))) h = absurd (omega arith)

-- "flags: bit 0 source drum, bit 1 target drum"
abbrev pub flags : Part (Bool × Bool)
flags = via two_bits bits_of (ranged 0 3 (lit≤ tt) (lit< tt)) bits_of_two

-- ---- the device: "All call is device 7F; another device is u7"; settled: "all call for device 127"

abbrev pub device_byte : DeviceID → ℕ
device_byte (Device n) = n
device_byte AllCall = all_call

abbrev pub device_of : ℕ → DeviceID
device_of v = pick (eqb v all_call) AllCall (Device v)

pub device_same : (v : ℕ) (t : Bool) → eqb v all_call ≡ t → device_byte (pick t AllCall (Device v)) ≡ v
device_same v true e = sym (eqb-true v all_call e)
device_same v false e = refl

abbrev pub device : Part DeviceID
device = via device_byte device_of u7 (λ v h. device_same v (eqb v all_call) refl)

-- ---- a tuning: "semitone (u7), then a 14-bit fraction, HIGH group first. No tuning is 7F 7F 7F"; settled: "no tuning for 7F 7F 7F"

abbrev pub semitone_fraction : Option Tuning → ℕ × ℕ
semitone_fraction None = (largest 1, largest 2)
semitone_fraction (Some t) = (t.semitone, t.fraction)

abbrev pub is_none : ℕ × ℕ → Bool
is_none x = eqb x.0 (largest 1) && eqb x.1 (largest 2)

abbrev pub tuned : ℕ × ℕ → Option Tuning
tuned x = Some (record { semitone = x.0; fraction = x.1 })

abbrev pub tuning_named : ℕ × ℕ → Option Tuning
tuning_named x = pick (is_none x) None (tuned x)

pub tuning_same : (x : ℕ × ℕ) (t : Bool) → is_none x ≡ t → semitone_fraction (pick t None (tuned x)) ≡ x
tuning_same x true e =
    let z = both_true (eqb x.0 (largest 1)) (eqb x.1 (largest 2)) e in
    λ i. (sym (eqb-true x.0 (largest 1) z.0) i, sym (eqb-true x.1 (largest 2) z.1) i)
tuning_same x false e = refl

abbrev pub tuning : Part (Option Tuning)
tuning = via semitone_fraction tuning_named (u7 ⊗ unsigned_high 2) (λ x h. tuning_same x (is_none x) refl)

-- "bank (00 if none)"; settled: "note change with a bank"
abbrev pub bank_number : Option ℕ → ℕ
bank_number None = 0
bank_number (Some n) = n

abbrev pub bank_or_none : Part (Option ℕ)
bank_or_none = via bank_number Some u7 (λ v h. refl)

-- ---- a loop number: "(u14; "all" is 7F 7F)"; settled: "loop number 16,383 is "all" (request all in 05 02 and 05 07, delete all in 05 01 and 05 06)"

abbrev pub loop_value : LoopNumber → ℕ
loop_value (Loop n) = n
loop_value RequestAll = all_loops
loop_value DeleteAll = all_loops

pub loop_same : (all : LoopNumber) → loop_value all ≡ all_loops → (v : ℕ) (t : Bool) → eqb v all_loops ≡ t → loop_value (pick t all (Loop v)) ≡ v
loop_same all e v true h = e ∙ sym (eqb-true v all_loops h)
loop_same all e v false h = refl

abbrev pub loop_number : (all : LoopNumber) → loop_value all ≡ all_loops → Part LoopNumber
loop_number all e = via loop_value (λ v. pick (eqb v all_loops) all (Loop v)) u14 (λ v h. loop_same all e v (eqb v all_loops) refl)

abbrev pub loop_requested : Part LoopNumber
loop_requested = loop_number RequestAll refl

abbrev pub loop_transmitted : Part LoopNumber
loop_transmitted = loop_number DeleteAll refl

-- ---- a maker: "one byte held to 7C, or 00 and two u7"; "one-byte maker 00": 3 VALUE; settled: "maker byte 01 to 7C"

abbrev pub zero_then : {A : Type 0} → Part A → Part A
zero_then p = lit (0 ∷ []) (lit< tt, tt) p

pub maker_fine : (v : ℕ) → (1 ≤ v) × (v ≤ most_maker) → unless Value (leb 1 v) ≡ none
maker_fine v h = ap (unless Value) (le-leb 1 v h.0)

abbrev pub one_byte_maker : Part ℕ
one_byte_maker = refusing (λ v. unless Value (leb 1 v)) (ranged 1 most_maker (lit≤ tt) (lit< tt)) maker_fine

abbrev pub extended_maker : Part (ℕ × ℕ)
extended_maker = zero_then (u7 ⊗ u7)

-- ---- a file type: "Types: "MIDI", "MIEX", "ESEQ", "TEXT", "BIN ", "MAC ", or custom"; settled: "a named type where the four bytes spell one"

abbrev pub Four : Type 0
Four = ℕ × (ℕ × (ℕ × ℕ))

-- the four letters of an array of the code
abbrev pub four : List ℕ → Four
four l = (get_or l 0 0, (get_or l 1 0, (get_or l 2 0, get_or l 3 0)))

abbrev pub bytes_of : Four → List ℕ
bytes_of x = x.0 ∷ x.1.0 ∷ x.1.1.0 ∷ x.1.1.1 ∷ []

abbrev pub type_chars : FileType → Four
type_chars MIDI = (0x4D, (0x49, (0x44, 0x49)))
type_chars MIEX = (0x4D, (0x49, (0x45, 0x58)))
type_chars ESEQ = (0x45, (0x53, (0x45, 0x51)))
type_chars TEXT = (0x54, (0x45, (0x58, 0x54)))
type_chars BIN = (0x42, (0x49, (0x4E, 0x20)))
type_chars MAC = (0x4D, (0x41, (0x43, 0x20)))
type_chars (Custom l) = four l

abbrev pub same_four : Four → Four → Bool
same_four x y = eqb x.0 y.0 && (eqb x.1.0 y.1.0 && (eqb x.1.1.0 y.1.1.0 && eqb x.1.1.1 y.1.1.1))

pub same_four_true : (x y : Four) → same_four x y ≡ true → x ≡ y
same_four_true x y e =
    let p = both_true _ _ e in
    let q = both_true _ _ p.1 in
    let r = both_true _ _ q.1 in
    λ i. (eqb-true x.0 y.0 p.0 i, (eqb-true x.1.0 y.1.0 q.0 i, (eqb-true x.1.1.0 y.1.1.0 r.0 i, eqb-true x.1.1.1 y.1.1.1 r.1 i)))

abbrev pub custom_type : Four → FileType
custom_type x = Custom (bytes_of x)

abbrev pub named_types : List FileType
named_types = MIDI ∷ MIEX ∷ ESEQ ∷ TEXT ∷ BIN ∷ MAC ∷ []

abbrev pub type_of : Four → FileType
type_of x = lookup same_four type_chars custom_type named_types x

abbrev pub type_bytes : FileType → List ℕ
type_bytes t = bytes_of (type_chars t)

abbrev pub type_letters : Part FileType
type_letters =
    via type_chars type_of (u7 ⊗ u7 ⊗ u7 ⊗ u7) (λ x h. lookup_same same_four type_chars custom_type same_four_true (λ c. refl) named_types x)

pub type_fine : (t : FileType) → type_letters.settled t → unless High (seven (type_bytes t)) ≡ none
type_fine t h = ap (unless High) (true_seven (type_bytes t) (h.0.0, (h.0.1.0, (h.0.1.1.0, (h.0.1.1.1, tt)))))

-- "custom type has a byte above 127": 1 HIGH
abbrev pub file_type : Part FileType
file_type = refusing (λ t. unless High (seven (type_bytes t))) type_letters type_fine

-- ---- names and texts: "HIGH looks at the whole name or URL, before any cut"

pub all_u7_seven : (l : List ℕ) → all_settled u7 l → Seven l
all_u7_seven [] h = tt
all_u7_seven (x ∷ l) h = (h.0, all_u7_seven l h.1)

abbrev pub high : List ℕ → maybe.Option Refusal
high l = unless High (seven l)

pub high_fine : (l : List ℕ) → all_settled u7 l → high l ≡ none
high_fine l h = ap (unless High) (true_seven l (all_u7_seven l h))

-- "16 name bytes"; a name of another length is cut or filled with spaces
abbrev pub name_of_16 : Part (List ℕ)
name_of_16 = refusing high (exactly u7 16 (λ i. 0x20) (λ i. refl)) (λ l h. high_fine l h.1)

-- "length, name (first 127 bytes)"
abbrev pub sample_name : Part (List ℕ)
sample_name = refusing high (counted u7) (λ l h. high_fine l h.1)

-- LONG: "file name above 1,024"
abbrev pub file_name : Whole (List ℕ)
file_name = such Long (λ l. leb (length l) most_name) rest (λ l h. h)

-- "URL (first 260 bytes), 00"
abbrev pub url : Part (List ℕ)
url = text most_url
