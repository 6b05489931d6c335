-- What the loop of `write_maps::write_maps` keeps: the first i entries say the first i records.
-- Assumes nothing.
use Rattle.std.proofs.Common.{◌≡◌, map, length, take}
use Rattle.util.specs.Limits.{most_counted}
use Rattle.messages.specs.Entries.{map_of}
use Rattle.write_maps.proofs.write_maps.Given as goal

abbrev pub invariant-loop-i : goal.invariant-loop-i
invariant-loop-i l = record {
  sized : length l.entries ≡ most_counted;
  held : map map_of (take l.i l.entries) ≡ take l.i l.maps;
}
