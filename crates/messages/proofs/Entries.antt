-- Laws of lent entries: an entry that was packed from numbers within their types is unpacked to them.
-- Assumes nothing.
use mathlib.Core.Path.{◌≡◌, refl, sym, ap, ◌∙◌}
use mathlib.Core.Bool.{Bool, true, false}
use Prim.Native.Nat.{ℕ, zero, suc, ◌+◌, ◌*◌, ◌/◌, ◌%◌, ◌^◌, ◌<◌, ◌≤◌, min}
use native.Mathlib.Nat.{div-one, div-div-eq-div-mul}
use native.Mathlib.Omega.{arith}
use lib.Arith.{digits_div, digits_mod}
use lib.Dec.{eqb}
use borrow.Author.Tests.{lt-ltb}
use Rattle.std.specs.declared.option.Option.{Option}
use Rattle.std.specs.declared.option.Option.TheVariants.{None, Some}
use Rattle.messages.specs.declared.tuning.Tuning.{Tuning}
use Rattle.messages.specs.declared.tuning.KeyTuning.{KeyTuning}
use Rattle.messages.specs.declared.file_reference.SoundFileMap.{SoundFileMap}
use Rattle.messages.specs.Fields.{bit, is_set}
use Rattle.messages.specs.Entries.{tuning_entry, tuning_of, change_entry, change_of, map_entry, map_of}

-- ---- flags

pub bit_below : (b : Bool) → bit b < 2
bit_below true = omega arith
bit_below false = omega arith

pub bit_back : (b : Bool) → is_set (bit b) ≡ b
bit_back true = refl
bit_back false = refl

-- the test for a set bit
pub set_test : (v : ℕ) → v < 2 → eqb v 1 ≡ is_set v
set_test zero h = refl
set_test (suc zero) h = refl
set_test (suc (suc v)) h = absurd (omega arith)

-- ---- tunings and note changes

-- the numbers are within their types
abbrev pub Within : Option Tuning → Type 0
Within None = Unit {0}
Within (Some t) = (t.semitone < 256) × (t.fraction < 65536)

pub tuning_below : (t : Option Tuning) → Within t → tuning_entry t ≤ 2 ^ 24
tuning_below None h = omega arith
tuning_below (Some t) h = omega arith

pub tuning_back : (t : Option Tuning) → Within t → tuning_of (tuning_entry t) ≡ t
tuning_back None h = refl
tuning_back (Some t) h =
    rw (lt-ltb (t.semitone * 65536 + t.fraction) (2 ^ 24) (omega arith), digits_div t.semitone h.1, digits_mod t.semitone h.1)

pub change_back : (c : KeyTuning) → c.key < 256 → Within c.tuning → change_of (change_entry c) ≡ c
change_back c k h =
    let b : tuning_entry c.tuning < 2 ^ 25 = omega (arith, tuning_below c.tuning h) in
    let m : min c.key 255 ≡ c.key = omega arith in
    rw (digits_div c.key b, digits_mod c.key b, m, tuning_back c.tuning h)

-- ---- maps

-- a digit r to the base m that stands at the place k, and what stands above it
digit : (n k q : ℕ) {m r : ℕ} → r < m → n / k ≡ q * m + r → (n / k % m ≡ r) × (n / (k * m) ≡ q)
digit n k q {m} h e =
    (ap (λ (x : ℕ). x % m) e ∙ digits_mod q h, sym (div-div-eq-div-mul n k m) ∙ ap (λ (x : ℕ). x / m) e ∙ digits_div q h)

pub map_back :
    (m : SoundFileMap) →
    m.dst_bank < 65536 → m.dst_prog < 256 → m.src_bank < 65536 → m.src_prog < 256 → m.volume < 256 →
    map_of (map_entry m) ≡ m
map_back m hb hp sb sp hv =
    let n = map_entry m in
    let v = digit n 1 _ hv (div-one n) in
    let d = digit n (2 ^ 8) _ (bit_below m.dst_drum) v.1 in
    let s = digit n (2 ^ 9) _ (bit_below m.src_drum) d.1 in
    let p = digit n (2 ^ 10) _ sp s.1 in
    let b = digit n (2 ^ 18) _ sb p.1 in
    let t = digit n (2 ^ 34) _ hp b.1 in
    let k : min m.dst_bank 65535 ≡ m.dst_bank = omega arith in
    let z : n % 256 ≡ m.volume = omega arith in
    rw (t.1, k, t.0, b.0, p.0, s.0, d.0, z, bit_back m.src_drum, bit_back m.dst_drum)
