-- Laws of fields that are held or mapped: what the layouts write of them is what the fronts have.
-- Assumes nothing.
use mathlib.Core.Path.{◌≡◌, refl}
use mathlib.Core.List.{[], ◌∷◌}
use Prim.Native.Nat.{ℕ, ◌≤◌, ◌%◌, min}
use native.Mathlib.Omega.{arith}
use lib.Dec.{eqb}
use Rattle.util.specs.Pick.{pick}
use Rattle.util.specs.Groups.{held}
use Rattle.messages.specs.declared.system_exclusive.DeviceID.{DeviceID}
use Rattle.messages.specs.declared.sample_dump.LoopNumber.{LoopNumber}
use Rattle.messages.specs.declared.sample_dump.LoopNumber.TheVariants.{Loop}
use Rattle.messages.specs.declared.sample_dump.LoopType.{LoopType}
use Rattle.messages.specs.declared.sample_dump.LoopType.TheVariants as loop
use Rattle.messages.specs.declared.sample_dump.ExtendedLoopType.{ExtendedLoopType}
use Rattle.messages.specs.declared.sample_dump.ExtendedLoopType.TheVariants as ext
use Rattle.messages.specs.format.Texts.{lookup_same}
use Rattle.messages.specs.Fields.{device_byte, device_of, device_same, loop_value, loop_same, Four, type_chars, type_of, same_four, custom_type, same_four_true, named_types}
use Rattle.messages.specs.Structures.{loop_code, extended_loop_code, loop_byte, extended_loop_byte}
use Rattle.write_fronts.specs.Fronts.{clamp}

-- a byte of at most 127 is its own group
pub low_same : (v : ℕ) → v ≤ 127 → min v 127 % 128 ≡ v
low_same v h = omega arith

-- a format, held to 8..28
pub format_same : (v : ℕ) → min (clamp 8 28 v) 127 % 128 ≡ clamp 8 28 v
format_same v = low_same (clamp 8 28 v) (omega arith)

-- a maker's byte, held to 1..124
pub maker_same : (v : ℕ) → min (clamp 1 124 v) 127 % 128 ≡ clamp 1 124 v
maker_same v = low_same (clamp 1 124 v) (omega arith)

-- a device's byte, as it is held
pub device_held : (d : DeviceID) → device_byte (device_of (held 1 (device_byte d))) ≡ held 1 (device_byte d)
device_held d = device_same (held 1 (device_byte d)) (eqb (held 1 (device_byte d)) 127) refl

-- a loop number's value, as it is held, with "all" as it is read
pub loop_held : (all : LoopNumber) → loop_value all ≡ 16383 → (i : LoopNumber)
    → loop_value (pick (eqb (held 2 (loop_value i)) 16383) all (Loop (held 2 (loop_value i)))) ≡ held 2 (loop_value i)
loop_held all e i = loop_same all e (held 2 (loop_value i)) (eqb (held 2 (loop_value i)) 16383) refl

-- four letters of a file type
pub letters_same : (x : Four) → type_chars (type_of x) ≡ x
letters_same x = lookup_same same_four type_chars custom_type same_four_true (λ c. refl) named_types x

-- a loop type's byte
pub loop_bytes : (t : LoopType) → loop_code t ≡ loop_byte t ∷ []
loop_bytes loop.Forward = refl
loop_bytes loop.BiDirectional = refl
loop_bytes loop.Off = refl

pub extended_loop_bytes : (t : ExtendedLoopType) → extended_loop_code t ≡ extended_loop_byte t ∷ []
extended_loop_bytes ext.Forward = refl
extended_loop_bytes ext.BiDirectional = refl
extended_loop_bytes ext.ForwardRelease = refl
extended_loop_bytes ext.BiDirectionalRelease = refl
extended_loop_bytes ext.Backward = refl
extended_loop_bytes ext.BackwardBiDirectional = refl
extended_loop_bytes ext.BackwardRelease = refl
extended_loop_bytes ext.BackwardBiDirectionalRelease = refl
extended_loop_bytes ext.BackwardOneShot = refl
extended_loop_bytes ext.OneShot = refl

pub loop_low : (t : LoopType) → held 1 (loop_byte t) % 128 ≡ loop_byte t
loop_low = elim [ loop.Forward ↦ refl | loop.BiDirectional ↦ refl | loop.Off ↦ refl ]

pub extended_loop_low : (t : ExtendedLoopType) → held 1 (extended_loop_byte t) % 128 ≡ extended_loop_byte t
extended_loop_low =
    elim [ ext.Forward ↦ refl | ext.BiDirectional ↦ refl | ext.ForwardRelease ↦ refl | ext.BiDirectionalRelease ↦ refl | ext.Backward ↦ refl | ext.BackwardBiDirectional ↦ refl | ext.BackwardRelease ↦ refl | ext.BackwardBiDirectionalRelease ↦ refl | ext.BackwardOneShot ↦ refl | ext.OneShot ↦ refl ]
