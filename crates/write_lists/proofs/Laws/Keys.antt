-- Laws of the tunings of 128 keys.
-- Assumes nothing.
use mathlib.Core.Path.{◌≡◌, refl}
use mathlib.Core.List.{List, [], ◌++◌}
use Prim.Native.Nat.{ℕ, ◌+◌, ◌*◌, ◌/◌, ◌%◌, ◌≤◌, ◌<◌}
use native.Mathlib.Omega.{arith}
use lib.ListN.{get_or}
use borrow.Author.Tests.{lt-ltb}
use Rattle.std.specs.Prelude.{Option, Some}
use Rattle.messages.specs.declared.tuning.Tuning.{Tuning}
use Rattle.messages.specs.format.Core.{written}
use Rattle.messages.specs.Fields.{tuning}
use Rattle.messages.specs.Entries.{tuning_of}
use Rattle.write_lists.proofs.Laws.Lists.{filled_from, filled_turn, filled_done}

-- "Entry i past the given list is i, 00, 00"
abbrev own : ℕ → Option Tuning
own i = Some (record { semitone = i; fraction = 0 })

key_self : (i : ℕ) → i < 128 → tuning_of (i * 65536) ≡ own i
key_self i h =
    let l : i * 65536 < 16777216 = omega arith in
    let d : i * 65536 / 65536 ≡ i = omega arith in
    let m : i * 65536 % 65536 ≡ 0 = omega arith in
    rw (lt-ltb _ _ l, d, m)

-- the tunings from key i on
abbrev pub keys_from : List ℕ → ℕ → List ℕ
keys_from s i = filled_from tuning 128 own (λ j. refl) tuning_of (λ j. j * 65536) s i

pub keys_turn : (s : List ℕ) (i : ℕ) → i < 128 → keys_from s i ≡ written tuning (tuning_of (get_or s i (i * 65536))) ++ keys_from s (i + 1)
keys_turn s i h =
    filled_turn tuning 128 own (λ j. refl) tuning_of (λ j. j * 65536) s i h (key_self i h)

pub keys_done : (s : List ℕ) (i : ℕ) → 128 ≤ i → keys_from s i ≡ []
keys_done s i h = filled_done tuning 128 own (λ j. refl) tuning_of (λ j. j * 65536) s i h
