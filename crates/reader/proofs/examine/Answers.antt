-- `reader::examine` meets its contract: what the fields say where the opening has them.
-- Assumes nothing.
use mathlib.Core.Path.{subst}
use Rattle.std.proofs.lemmas.Result.{err_from_is_err_and}
use Rattle.messages.specs.Messages.{Answer, Message, read_of}
use Rattle.reader.specs.Reading.{Tells}
use Rattle.reader.proofs.Laws.Met.{told_refused}
use Rattle.reader.proofs.examine.Goals as goal

pub returns-in_err-o : goal.returns-in_err-o
returns-in_err-o c =
    let l = c.args.frame.now in
    let p = err_from_is_err_and c.from_residual.result c.from_residual.ensures.1 in
    rw (p.1, p.2) (told_refused _ (read_of c.args.kind l) l c.in_err-o.ensures.says)

pub examine_fields-requires : goal.examine_fields-requires
examine_fields-requires c = c.in_ok-o.ensures.part

pub returns : goal.returns
returns c =
    subst (λ (a : Answer Message). Tells c.examine_fields.result a c.args.frame.now) c.in_ok-o.ensures.says c.examine_fields.ensures
