-- `read_file_dump::packed::put_rest` meets its contract. The invariant: the data of the bytes that are left, put on what is there, gives what all give.
-- Assumes nothing.
use mathlib.Core.Path.{◌≡◌}
use Prim.Native.Nat.{◌+◌, ◌^◌, ◌≤◌, ◌<◌}
use lib.ListN.{length, drop}
use Rattle.util.specs.Splice.{splice}
use Rattle.read_places.specs.Places.{data_from}
use Rattle.read_file_dump.proofs.packed.put_rest.Given as goal

abbrev pub invariant-loop-b : goal.invariant-loop-b
invariant-loop-b l =
    (l.k ≤ 7)
    × (l.t < 2 ^ l.k)
    × (length l.out ≡ length l.initial.out)
    × (l.at + length (data_from l.k l.t (drop l.b-index l.s)) ≡ length (data_from 0 0 l.s))
    × (splice l.out l.at (data_from l.k l.t (drop l.b-index l.s)) ≡ splice l.initial.out 0 (data_from 0 0 l.s))
