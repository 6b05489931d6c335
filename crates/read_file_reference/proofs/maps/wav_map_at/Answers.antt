-- `read_file_reference::maps::wav_map_at` meets its contract, by the length.
-- Assumes nothing.
use native.Mathlib.Omega.{arith}
use Rattle.read_file_reference.proofs.Laws.Picks.{wav_found}
use Rattle.read_file_reference.proofs.maps.wav_map_at.Goals as goal

pub returns-then-length-eq9 : goal.returns-then-length-eq9
returns-then-length-eq9 c =
    rw c.wav_at-map.ensures (wav_found c.args.f.now c.len.ensures.seven c.args.i (omega (arith, c.len.ensures.size, c.requires, c.if-length-eq9.true)))
