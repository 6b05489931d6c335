-- The checksum as a part of a frame.
-- Assumes nothing.
use mathlib.Core.Path.{◌≡◌, refl, ap, ap₂, ◌∙◌}
use mathlib.Core.Bool.{Bool, true, false}
use mathlib.Core.List.{List, [], ◌∷◌, ◌++◌}
use Prim.Native.Nat.{ℕ, suc, ◌+◌, ◌-◌}
use native.Mathlib.Omega.{arith}
use lib.ListN.{length, take, drop, length-append}
use lib.Seq.{take_at}
use Rattle.util.proofs.Laws.Splice.{Run}
use Rattle.messages.specs.Layouts.{summed}
use Rattle.messages.specs.MessageOf.{head_of}
use Rattle.messages.specs.declared.system_exclusive.DeviceID.{DeviceID}
use Rattle.messages.specs.declared.system_exclusive.UniversalNonRealTimeMsg.{UniversalNonRealTimeMsg}
use Rattle.messages.specs.Fields.{device_byte}
use Rattle.write_fronts.specs.Fronts.{front_of}
use Rattle.write_fronts.specs.Sizes.{front_size}
use Rattle.write_fronts.proofs.Laws.{front_length}
use Rattle.write_lists.specs.Parts.{part_of}
use Rattle.writer.specs.declared.Sizes.{Sizes}
use Rattle.writer.specs.Frames.{sum_of, wire, frame_of, SizesOf}

-- ---- the checksum in a frame

-- the length of a frame, by its parts
pub wire_length : (b : Bool) (h d : List ℕ) → length (wire b (h ++ d)) ≡ 1 + length h + length d + length (sum_of b (h ++ d)) + 1
unfolding wire
wire_length b h d = simp length-append (omega arith)

-- a checksum takes as many bytes whatever it is of
pub sum_length : (b : Bool) (x y : List ℕ) → length (sum_of b x) ≡ length (sum_of b y)
sum_length true x y = refl
sum_length false x y = refl

-- what lies from index 1 up to n, once n bytes are written
pub run_body : {x0 bs x : List ℕ} {n b : ℕ} → Run x0 (b ∷ bs) x n → take (n - 1) (drop 1 x) ≡ bs
run_body {x0} {bs} {x} {n} {b} r =
    ap (λ (t : List ℕ). take (n - 1) (drop 1 t)) r.is ∙ take_at bs (drop (suc (length bs)) x0) (n - 1) (omega (arith, r.len))

-- the length of a message's frame, by its parts
pub frame_length : (d : DeviceID) (m : UniversalNonRealTimeMsg) (text entries : List ℕ)
    → length (frame_of d m text entries) ≡ 2 + front_size m + length (part_of m text entries) + length (sum_of (summed (head_of m)) [])
unfolding frame_of
frame_length d m text entries =
    let f : List ℕ = front_of (device_byte d) m (length text) (length entries) in
    let p : List ℕ = part_of m text entries in
    omega (
      arith,
      wire_length (summed (head_of m)) f p,
      front_length (device_byte d) m (length text) (length entries),
      sum_length (summed (head_of m)) [] (f ++ p),
    )

-- so is what the sizes add up to
pub total_is : (s : Sizes) (d : DeviceID) (m : UniversalNonRealTimeMsg) (text entries : List ℕ) (n : ℕ) → SizesOf s m text entries
    → n ≡ 2 + s.front + s.part + length (sum_of s.sum []) → n ≡ length (frame_of d m text entries)
total_is s d m text entries n o e =
    omega (arith, frame_length d m text entries, o.front_is, o.part_is, ap (λ (b : Bool). length (sum_of b [])) o.sum_is)

-- the frame, by the device's byte and whether there is a checksum
pub frame_by : (b : Bool) (r : ℕ) (d : DeviceID) (m : UniversalNonRealTimeMsg) (text entries : List ℕ) → b ≡ summed (head_of m) → r ≡ device_byte d
    → wire b (front_of r m (length text) (length entries) ++ part_of m text entries) ≡ frame_of d m text entries
unfolding frame_of
frame_by b r d m text entries e f =
    ap₂ (λ (t : Bool) (v : ℕ). wire t (front_of v m (length text) (length entries) ++ part_of m text entries)) e f
