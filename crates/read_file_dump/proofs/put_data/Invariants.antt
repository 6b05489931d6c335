-- `read_file_dump::put_data` meets its contract. The invariant: the data of the bytes that are left, put on what is there, has room and gives what all give.
-- Assumes nothing.
use Rattle.std.proofs.Common.{◌≡◌, ◌≤◌, ◌+◌, ◌*◌, length}
use lib.ListN.{drop}
use Rattle.util.specs.Splice.{splice}
use Rattle.read_places.specs.Places.{data_from, data_at}
use Rattle.read_file_dump.proofs.put_data.Given as goal

abbrev pub invariant-loop-n : goal.invariant-loop-n
invariant-loop-n l =
    let rest = data_from 0 0 (drop (8 * l.n) (drop l.at l.f)) in
    (7 * l.n + length rest ≤ length l.out) × (splice l.out (7 * l.n) rest ≡ splice l.initial.out 0 (data_at l.f l.at))
