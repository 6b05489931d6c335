-- Loop types and loop numbers by place.
-- Assumes nothing.
use mathlib.Core.Path.{◌≡◌}
use mathlib.Core.List.{List, [], ◌∷◌}
use Prim.Native.Nat.{ℕ, ◌+◌, ◌<◌, ◌≤◌}
use lib.ListN.{length, drop, get_or}
use Rattle.util.specs.Limits.{all_loops}
use Rattle.util.specs.Groups.{Seven}
use Rattle.messages.specs.declared.sample_dump.LoopType.{LoopType}
use Rattle.messages.specs.declared.sample_dump.ExtendedLoopType.{ExtendedLoopType}
use Rattle.messages.specs.declared.sample_dump.LoopNumber.{LoopNumber}
use Rattle.messages.specs.format.Core.{got}
use Rattle.messages.specs.Fields.{loop_value, loop_number}
use Rattle.messages.specs.Structures.{loop_code, loop_type, extended_loop_code, extended_loop_type}
use Rattle.read_places.specs.Places.{value_at}
use Rattle.read_places.proofs.Laws.Numbers.{unsigned_at}
use Rattle.read_sample_dump.specs.Loops.{loop_number_of}
use Rattle.read_sample_dump.proofs.Laws.Bytes.{byte_at}

pub loop_type_at : (t : LoopType) (f : List ℕ) (i : ℕ) → i < length f → loop_code t ≡ get_or f i 0 ∷ [] → loop_type.read (drop i f) ≡ got t (drop (i + 1) f)
loop_type_at t f i n e = byte_at loop_type t f i tt n e

pub extended_loop_type_at : (t : ExtendedLoopType) (f : List ℕ) (i : ℕ) → i < length f → extended_loop_code t ≡ get_or f i 0 ∷ []
    → extended_loop_type.read (drop i f) ≡ got t (drop (i + 1) f)
extended_loop_type_at t f i n e = byte_at extended_loop_type t f i tt n e

-- a loop number, where `all` is 16,383
pub loop_number_at : (all : LoopNumber) (e : loop_value all ≡ all_loops) (f : List ℕ) → Seven f → (i : ℕ) → i + 2 ≤ length f
    → (loop_number all e).read (drop i f) ≡ got (loop_number_of all (value_at 2 f i)) (drop (i + 2) f)
loop_number_at all e f s i n = rw (unsigned_at f s 2 i n)
