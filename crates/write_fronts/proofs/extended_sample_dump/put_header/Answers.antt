-- `write_fronts::extended_sample_dump::put_header` meets its contract: its two writes are the fields up to the rate and those after it.
-- Assumes nothing.
use mathlib.Core.Path.{refl}
use mathlib.Core.List.{List, [], ◌∷◌}
use Prim.Native.Nat.{ℕ}
use native.Mathlib.Omega.{arith}
use Rattle.util.proofs.Laws.Splice.{Run, run_part}
use Rattle.messages.specs.Structures.{extended_loop_byte}
use Rattle.write_fronts.specs.Fronts.{clamp, spell, start_2}
use Rattle.write_fronts.proofs.extended_sample_dump.put_header.Goals as goal
use Rattle.write_fronts.proofs.extended_sample_dump.put_header.Goals.{Start}

-- the fields up to the rate, and those after it
abbrev rate : Start → List ℕ
rate c = start_2 c.args.d 0x05 0x05 ((2, c.args.sample) ∷ (1, clamp 8 28 c.args.format) ∷ (4, c.args.whole) ∷ (4, c.args.fraction) ∷ [])

abbrev points : Start → List ℕ
points c = spell ((5, c.args.len) ∷ (5, c.args.start) ∷ (5, c.args.end) ∷ (1, extended_loop_byte c.args.kind) ∷ (1, c.args.channels) ∷ [])

pub returns : goal.returns
returns c =
    let r : Run c.args.out.now (rate (goal.at.returns c).Start) c.put_header_rate.new.out 15 = record { is = c.put_header_rate.ensures; len = refl; fits = omega arith } in
    (run_part r c.put_header_points.new.out (points (goal.at.returns c).Start) 17 refl (omega arith) c.put_header_points.ensures).is
