-- `write_lists::part::put_named` meets its contract: a name, and after it the values.
-- Assumes nothing.
use Prim.Native.Nat.{◌*◌}
use native.Mathlib.Omega.{arith}
use lib.ListN.{length}
use Rattle.util.proofs.Laws.Splice.{Run, run_part}
use Rattle.messages.specs.Fields.{name_of_16}
use Rattle.messages.specs.format.Core.{written}
use Rattle.write_lists.specs.Writing.{each}
use Rattle.write_lists.proofs.Laws.Lists.{each_length}
use Rattle.write_lists.proofs.Laws.Sizes.{length_name}
use Rattle.write_lists.proofs.part.put_named.Goals as goal

pub returns : goal.returns
returns g c =
    let f = g.F.Format in
    let l = c.args.values.now in
    let r : Run c.args.out.now (written name_of_16 c.args.text.now) c.put_name_16.new.out 16 =
    record { is = c.put_name_16.ensures; len = length_name c.args.text.now; fits = omega (arith, c.requires) } in
    (run_part r c.put_each.new.out (each f.bytes l) (f.SIZE * length l) (each_length f.bytes f.SIZE g.met.F.Format.sized l) c.requires c.put_each.ensures).is
