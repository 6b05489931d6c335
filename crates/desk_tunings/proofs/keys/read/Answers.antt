-- `desk_tunings::keys::read` meets its contract, from what its parts say.
-- Assumes nothing.
use mathlib.Core.Path.{ap, ◌∙◌}
use mathlib.Core.List.{List}
use Prim.Native.Nat.{ℕ}
use lib.ListN.{drop}
use Rattle.desk_text.specs.Lines.{mark_length, lines_of}
use Rattle.desk_tunings.specs.Keys.{Lines, counted_of, filled_from, read_lines, read_text, read_answer, read_entries}
use Rattle.desk_tunings.proofs.keys.read.Goals as goal

pub returns : goal.returns
unfolding read_answer read_entries read_text
returns c =
    let s = c.args.s.now in
    let q = c.put_lines-l.ensures ∙ ap (λ (es : List ℕ). read_lines (lines_of (drop (mark_length s) s)) 0 0 es) (c.fill.ensures.after (λ y e. e)) in
    record {
      value = c.counted.ensures ∙ ap (λ (x : Lines × List ℕ). counted_of x.0) q;
      entries_after = c.fill-2.ensures ∙ ap (λ (x : Lines × List ℕ). filled_from 0 x.1) q;
    }
