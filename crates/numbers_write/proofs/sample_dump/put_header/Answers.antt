-- `numbers_write::sample_dump::put_header` meets its contract: its three writes, one after the other from the front, are the frame's parts.
-- Assumes nothing.
use mathlib.Core.Path.{refl}
use mathlib.Core.List.{◌∷◌}
use native.Mathlib.Omega.{arith}
use lib.ListN.{length-set}
use Rattle.util.proofs.Laws.Splice.{Run, run_set, run_room, run_length}
use Rattle.messages.specs.declared.sample_dump.SampleDumpMsg.TheVariants as sample
use Rattle.write_fronts.specs.Fronts.{front_sample}
use Rattle.writer.specs.Frames.{wire}
use Rattle.writer.proofs.Laws.Opened.{with_row, opened, row_put}
use Rattle.numbers_write.proofs.sample_dump.put_header.Goals as goal
use Rattle.numbers_write.proofs.sample_dump.put_header.Goals.{After-put_header}

-- F0 and the front are written
headed : (c : After-put_header)
    → Run c.args.out.now (0xF0 ∷ front_sample c.args.d (sample.Header c.args.sample c.args.format c.args.period c.args.len c.args.start c.args.end c.args.kind)) (with_row c.args.out.now c.put_header.new.out) 20
headed c = row_put c.args.out.now _ c.put_header.new.out 19 refl (omega (arith, c.requires)) c.put_header.ensures

pub slice_bounds-put_header-count : goal.slice_bounds-put_header-count
slice_bounds-put_header-count c =
    rw length-set (omega (arith, c.requires))

pub slice_bounds-put_header-start : goal.slice_bounds-put_header-start
slice_bounds-put_header-start c =
    rw length-set (omega (arith, c.requires))

pub put_header-requires : goal.put_header-requires
put_header-requires c =
    (run_room (opened c.args.out.now (omega (arith, c.requires))) 19 (omega (arith, c.requires)), c.clamp-f.ensures, c.from-t.ensures)

pub bounds-out-20 : goal.bounds-out-20
bounds-out-20 c =
    omega (arith, c.requires, run_length (headed (goal.at.bounds-out-20 c).After-put_header))

pub shape_of-out : goal.shape_of-out
shape_of-out c =
    run_length (run_set (headed (goal.at.shape_of-out c).After-put_header) 0xF7 (omega (arith, c.requires)))

pub returns : goal.returns
unfolding wire
returns c =
    (run_set (headed (goal.at.returns c).After-put_header) 0xF7 (omega (arith, c.requires))).is
