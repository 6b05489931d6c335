-- `write_lists::part::put_part_file` meets its contract: admitted data is at most 111 bytes.
-- Assumes nothing.
use Rattle.write_lists.proofs.Laws.Sizes.{not_longer}
use Rattle.write_lists.proofs.part.put_part_file.Goals as goal

pub put_file_data-requires : goal.put_file_data-requires
put_file_data-requires c =
    let e = c.in-Packet.is in
    (not_longer 111 c.args.text.now (rw e at c.requires.0), rw e at c.requires.1)
