-- `read_file_reference::maps::bank_offset_at` meets its contract, by whether there is an offset.
-- Assumes nothing.
use Rattle.messages.specs.Maps.{bank_only}
use Rattle.read_file_reference.proofs.Laws.Picks.{bank_offset_not, picks_none}
use Rattle.read_file_reference.proofs.maps.bank_offset_at.Goals as goal

pub returns-in_err-bank_offset : goal.returns-in_err-bank_offset
returns-in_err-bank_offset c =
    let f = c.args.f.now in
    let i = c.args.i in
    let o = c.in_err-bank_offset.ensures in
    rw c.from_residual.ensures (picks_none bank_only f i (bank_offset_not f o.0 i c.requires.0 o.1))
