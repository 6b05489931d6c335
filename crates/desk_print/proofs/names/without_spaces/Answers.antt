-- `desk_print::names::without_spaces` meets its contract. Behind the place that is found stand spaces alone.
-- Assumes nothing.
use borrow.Author.Rules.{rules}
use Rattle.desk_print.proofs.Texts.{trimmed_at, trimmed_none}
use Rattle.desk_print.proofs.names.without_spaces.Goals as goal

pub returns-in-Some : goal.returns-in-Some
returns-in-Some c =
    trimmed_at c.args.s.now c.in-Some.last (search rules) (search rules) (λ k h l. search rules)

pub returns-in-None : goal.returns-in-None
returns-in-None c = trimmed_none c.args.s.now (λ k h l. search rules)
