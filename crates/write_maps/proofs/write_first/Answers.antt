-- `write_maps::write_first` meets its contract: the first of 130 records are a list of records.
-- Assumes nothing.
use Rattle.std.proofs.Common.{ap, ◌∙◌, ℕ, arith, take, ◌≡◌}
use Rattle.write_maps.proofs.Laws.{first_lent}
use Rattle.write_maps.proofs.write_first.Goals as goal

pub returns : goal.returns
returns c =
    let e : take c.min.result c.args.records ≡ take c.args.n c.args.records = ap (λ (k : ℕ). take k c.args.records) c.min.ensures ∙ first_lent c.args.records c.args.n (omega arith) in
    rw e at c.write_maps.ensures
