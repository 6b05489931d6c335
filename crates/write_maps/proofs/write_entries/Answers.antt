-- `write_maps::write_entries` meets its contract: `write` beside entries is writing beside the records that they say.
-- Assumes nothing.
use Rattle.std.proofs.Common.{sym, ap, ◌∙◌, List, ℕ, arith, length, take}
use lib.Seq.{length-take-le}
use Rattle.messages.specs.Messages.{Answer}
use Rattle.writer.specs.Write.{written_at, output_after}
use Rattle.write_maps.proofs.Laws.{same_frame}
use Rattle.write_maps.proofs.write_entries.Goals as goal

pub slice_bounds-write-end : goal.slice_bounds-write-end
slice_bounds-write-end c = sym (length-take-le c.args.n c.args.entries (omega arith))

pub returns : goal.returns
returns c =
    let e = same_frame c.args.device c.args.m c.args.text.now (take c.args.n c.args.entries) in
    let w = c.write.ensures in (
      w.0 ∙ ap (λ (x : Answer (List ℕ)). written_at x (length c.args.out.now) c.args.place) e,
      w.1 ∙ ap (λ (x : Answer (List ℕ)). output_after x c.args.out.now c.args.place) e,
    )
