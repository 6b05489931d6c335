-- `desk_tunings::scale::are_whole` meets its contract: the library's test of all values is that of the definition.
-- Assumes nothing.
use Rattle.std.proofs.Common.{refl, rules}
use Rattle.std.proofs.lemmas.List.Recursion.{and_is}
use Rattle.desk_tunings.specs.Scale.{is_whole_value, are_whole_values}
use Rattle.desk_tunings.proofs.scale.are_whole.Goals as goal

pub returns : goal.returns
unfolding are_whole_values
returns c = and_is are_whole_values is_whole_value refl (λ _ _. refl) c.args.values.now 0 _ (search rules) (search rules)
