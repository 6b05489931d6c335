-- `write_lists::part::put_url_select` meets its contract: a URL, and after it what a select holds.
-- Assumes nothing.
use mathlib.Core.Path.{◌∙◌}
use Prim.Native.Nat.{◌+◌}
use native.Mathlib.Omega.{arith}
use Rattle.util.proofs.Laws.Splice.{Run, run_part}
use Rattle.messages.specs.Fields.{url}
use Rattle.messages.specs.format.Core.{written}
use Rattle.write_lists.specs.Parts.{part_select}
use Rattle.write_lists.proofs.Laws.Sizes.{length_url, length_select}
use Rattle.write_lists.proofs.part.put_url_select.Goals as goal

pub returns : goal.returns
returns c =
    let r : Run c.args.out.now (written url c.args.text.now) c.put_url.new.out (c.min-at.result + 1) =
    record {
      is = c.put_url.ensures;
      len = length_url c.args.text.now ∙ omega (arith, c.min-at.ensures);
      fits = omega (arith, c.requires, c.min-at.ensures);
    } in
    (run_part r c.put_select.new.out (part_select c.args.m c.args.entries.now) _ (length_select c.args.m c.args.entries.now)
    (omega (arith, c.requires, c.min-at.ensures)) c.put_select.ensures).is
