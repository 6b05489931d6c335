-- `write_lists::part::put_key_dump` meets its contract: a name, and after it the tunings of keys.
-- Assumes nothing.
use native.Mathlib.Omega.{arith}
use Rattle.util.proofs.Laws.Splice.{Run, run_part}
use Rattle.messages.specs.Fields.{name_of_16}
use Rattle.messages.specs.format.Core.{written}
use Rattle.write_lists.specs.Parts.{part_keys}
use Rattle.write_lists.proofs.Laws.Sizes.{length_name, length_keys}
use Rattle.write_lists.proofs.part.put_key_dump.Goals as goal

pub returns : goal.returns
returns c =
    let r : Run c.args.out.now (written name_of_16 c.args.text.now) c.put_name_16.new.out 16 =
    record { is = c.put_name_16.ensures; len = length_name c.args.text.now; fits = omega (arith, c.requires) } in
    (run_part r c.put_keys.new.out (part_keys c.args.entries.now) 384 (length_keys c.args.entries.now) (omega (arith, c.requires)) c.put_keys.ensures).is
