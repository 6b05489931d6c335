-- `read_file_dump::packet` meets its contract: at most 111 data bytes, the count byte that they come to, and no bit left over.
-- Assumes nothing.
use mathlib.Core.Path.{◌≡◌, refl, sym, ◌∙◌}
use native.Mathlib.Omega.{arith}
use lib.ListN.{length, drop, get_or}
use Rattle.util.proofs.Laws.Splice.{tail_drop}
use Rattle.messages.specs.declared.head.Head.TheVariants as head
use Rattle.read_places.proofs.Laws.Answers.{reads_none, reads_found}
use Rattle.read_places.specs.Places.{data_at, none_over}
use Rattle.read_file_dump.proofs.Laws.Fields.{packet_long, packet_count, packet_over, packet_size, packet_reads}
use Rattle.read_file_dump.proofs.packet.Goals as goal
use Rattle.read_file_dump.proofs.packet.Goals.{After-is_none_over-none_over, then-count-gt-MOST_DATA-via-then-count-gt-MOST_DATA, then-count-gt-MOST_DATA-via-else-count-gt-MOST_DATA+then-count_byte-count, then-count-gt-MOST_DATA-via-else-count-gt-MOST_DATA+else-count_byte-count+then-not-none_over}

-- how many data bytes there are, the count byte, and whether a bit is left over
found : (c : After-is_none_over-none_over)
    → let f = c.args.f.now in
    (c.data_size-count.result ≡ length (data_at f 2)) × (c.at-count_byte.result ≡ get_or f 1 0) × (none_over 0 0 (drop 2 f) ≡ c.is_none_over-none_over.result)
found c =
    let f = c.args.f.now in
    let s = c.len-size.ensures.seven in
    (omega (arith, packet_size f s), c.at-count_byte.ensures, sym (rw (c.f.view_is, tail_drop f 2) at c.is_none_over-none_over.ensures))

pub returns-then-count-gt-MOST_DATA : goal.returns-then-count-gt-MOST_DATA
returns-then-count-gt-MOST_DATA c =
    let f = c.args.f.now in
    let s = c.len-size.ensures.seven in
    let x = found (goal.at.returns-then-count-gt-MOST_DATA c).After-is_none_over-none_over in
    reads_none head.FileDumpPacket f (elim c.then-count-gt-MOST_DATA.branch [
      | then-count-gt-MOST_DATA-via-then-count-gt-MOST_DATA w ↦ packet_long f s (omega arith) (omega arith)
      | then-count-gt-MOST_DATA-via-else-count-gt-MOST_DATA+then-count_byte-count w ↦ packet_count f s (omega arith) λ e. omega arith
      | then-count-gt-MOST_DATA-via-else-count-gt-MOST_DATA+else-count_byte-count+then-not-none_over w ↦ packet_over f s (omega arith) (x.2 ∙ w.if-not-none_over.true)
    ])

pub returns : goal.returns
returns c =
    let f = c.args.f.now in
    let s = c.len-size.ensures.seven in
    let x = found (goal.at.returns c).After-is_none_over-none_over in
    rw (c.numbers.ensures, c.u7_at.ensures)
    (reads_found head.FileDumpPacket f _ _ (λ d. refl) (omega arith, omega arith, omega arith, omega arith) (refl, refl) (packet_reads f s (omega arith) (x.2 ∙ c.if-not-none_over.false) (omega arith) (omega arith)))
