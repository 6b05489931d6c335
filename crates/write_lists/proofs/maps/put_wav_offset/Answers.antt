-- `write_lists::maps::put_wav_offset` meets its contract: a WAV map, and after it an offset.
-- Assumes nothing.
use mathlib.Core.Path.{refl}
use native.Mathlib.Omega.{arith}
use Rattle.util.proofs.Laws.Splice.{Run, run_part}
use Rattle.messages.specs.Maps.{wav_map}
use Rattle.messages.specs.format.Core.{written}
use Rattle.write_lists.specs.Parts.{part_offset}
use Rattle.write_lists.proofs.maps.put_wav_offset.Goals as goal

pub returns : goal.returns
returns c =
    let r : Run c.args.out.now (written wav_map c.args.m) c.put_wav.new.out 9 =
    record { is = c.put_wav.ensures; len = refl; fits = omega (arith, c.requires) } in
    (run_part r c.put_offset.new.out (part_offset c.args.o c.args.d) 7 refl (omega (arith, c.requires)) c.put_offset.ensures).is
