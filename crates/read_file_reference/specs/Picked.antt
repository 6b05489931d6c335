-- What a reader of a map has found is what the map's format reads.
use Rattle.std.specs.Prelude.{◌≡◌, List, ℕ, ◌^◌, ◌<◌, ◌≤◌, length, drop, Some, None}
use Rattle.std.specs.Prelude as rust
use Rattle.std.proofs.Math.Option.{Option, none, some}
use Rattle.util.specs.Limits.{most_places}
use Rattle.messages.specs.declared.file_reference.SelectMap.{SelectMap}
use Rattle.messages.specs.format.Core.{Whole}
use Rattle.messages.specs.Maps.{AnySelect, select_length}
use Rattle.messages.specs.MessageOf.{any_select}
use Rattle.read_places.specs.Found.{entries_select}
use Rattle.read_file_reference.specs.declared.maps.Picked.{Picked}

-- the map that the numbers and the bytes of the fields say
abbrev pub select_of : Picked → List ℕ → AnySelect
select_of p f = any_select p.map (entries_select p.map f p.at p.count)

abbrev pub picked_of : rust.Option Picked → List ℕ → Option AnySelect
picked_of (Some p) f = some (select_of p f)
picked_of None f = none

-- the length that 01 counts for the map, which two groups hold, and the list of its places, at most 128, in the fields
abbrev pub in_fields : rust.Option Picked → List ℕ → Type 0
in_fields (Some p) f =
    (p.length ≡ select_length (select_of p f)) × (p.length < 128 ^ 2) × (p.at ≤ length f) × (p.count ≤ most_places) × (length (entries_select p.map f p.at p.count) ≡ p.count)
in_fields None f = Unit {0}

-- a map with the length that is counted for it, and its list of n places from i on
abbrev pub picked : SelectMap → ℕ → ℕ → ℕ → Picked
picked m len i n = record { map = m; length = len; at = i; count = n }

-- what was found of the fields f from i on is what the format p reads there
pub record Picks (p : Whole AnySelect) (r : rust.Option Picked) (f : List ℕ) (i : ℕ) : Type 0 where
  pub says : picked_of r f ≡ p.read (drop i f)
  pub part : in_fields r f
