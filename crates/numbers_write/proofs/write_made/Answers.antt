-- `numbers_write::write_made` meets its contract: the writer's answer.
-- Assumes nothing.
use mathlib.Core.Path.{◌≡◌, sym, ◌∙◌}
use borrow.Author.Rules.{rules}
use Rattle.std.specs.Prelude.{Ok, Err}
use Rattle.numbers_write.specs.declared.WriteError.TheVariants.{Refused}
use Rattle.numbers_write.proofs.Laws.{wrote, unwritten}
use Rattle.numbers_write.proofs.write_made.Goals as goal

pub returns-in_err-write-in-Some : goal.returns-in_err-write-in-Some
returns-in_err-write-in-Some c =
    let w = c.in_err-write-in-Some.ensures in
    let t = wrote _ _ _ _ _ _ _ (sym c.from_numbers.ensures ∙ c.in-Some.is) (Err c.in_err-write-in-Some.field-0.0) _ w.0 w.1 in
    let q : c.from_residual.result ≡ Err (Refused c.in_err-write-in-Some.field-0.0) = search rules in
    record { answer = q ∙ t.0; output = t.1 }

pub returns-in_ok-write-in-Some : goal.returns-in_ok-write-in-Some
returns-in_ok-write-in-Some c =
    let w = c.in_ok-write-in-Some.ensures in
    let t = wrote _ _ _ _ _ _ _ (sym c.from_numbers.ensures ∙ c.in-Some.is) (Ok c.in_ok-write-in-Some.field-0) _ w.0 w.1 in
    record { answer = t.0; output = t.1 }

pub returns-in-None : goal.returns-in-None
returns-in-None c =
    let t = unwritten _ _ _ _ _ (sym c.from_numbers.ensures ∙ c.in-None.is) in
    record { answer = t.0; output = t.1 }
