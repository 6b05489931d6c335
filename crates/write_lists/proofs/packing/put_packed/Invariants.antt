-- `write_lists::packing::put_packed` meets its contract. The invariant: the groups that are left, written on what is there, give what all give.
-- Assumes nothing.
use Rattle.std.proofs.Common.{◌≡◌, ◌+◌, ◌*◌, ◌-◌, ◌≤◌, length}
use Rattle.std.specs.Iterator.Adapters.{enumerate_source, enumerate_count}
use Rattle.std.specs.Slice.Iter.{chunks_rest, chunks_size}
use Rattle.util.specs.Packing.{pack}
use Rattle.util.specs.Splice.{splice}
use Rattle.write_lists.proofs.packing.put_packed.Given as goal

abbrev pub invariant-loop-i : goal.invariant-loop-i
invariant-loop-i l =
    let rest = chunks_rest (enumerate_source l.i-iterator) in
    (goal.iterator-loop-i).can_next l.i-iterator
    × (goal.iterator-loop-i).is_finite l.i-iterator
    × (chunks_size (enumerate_source l.i-iterator) ≡ 7)
    × (7 * enumerate_count l.i-iterator ≤ length l.s + 6)
    × (length rest ≡ length l.s - 7 * enumerate_count l.i-iterator)
    × (splice l.out (8 * enumerate_count l.i-iterator) (pack 0 rest) ≡ splice l.initial.out 0 (pack 0 l.s))
