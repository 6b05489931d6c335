-- `desk_files::sorts::is_text` meets its contract: the library's test of all bytes is that of the definition.
-- Assumes nothing.
use Rattle.std.proofs.Common.{refl, rules}
use Rattle.std.proofs.lemmas.List.Recursion.{and_is}
use Rattle.desk_files.specs.Sorts.{is_text_byte, is_text}
use Rattle.desk_files.proofs.sorts.is_text.Goals as goal

pub returns : goal.returns
unfolding is_text
returns c = and_is is_text is_text_byte refl (λ _ _. refl) c.args.s.now 0 _ (search rules) (search rules)
