-- `reader::test::is_opened` meets its contract, by whether there is an opening.
-- Assumes nothing.
use mathlib.Core.Path.{ap, ◌∙◌}
use Rattle.messages.specs.Walk.{is_given}
use Rattle.reader.proofs.test.is_opened.Goals as goal

pub is_valid-requires : goal.is_valid-requires
is_valid-requires c = c.in-Ok.ensures.part

pub returns-in-Ok : goal.returns-in-Ok
returns-in-Ok c = c.is_valid.ensures ∙ ap is_given c.in-Ok.ensures.says

pub returns-in-Err : goal.returns-in-Err
returns-in-Err c = ap is_given c.in-Err.ensures.says
