-- `reader::read` meets its contract: the answer, and what the lent places hold after it.
-- Assumes nothing.
use mathlib.Core.Path.{subst}
use Rattle.std.proofs.lemmas.Result.{err_from_is_err_and}
use Rattle.messages.specs.Messages.{Answer, Message, read_of}
use Rattle.reader.specs.Reading.{ReadMet}
use Rattle.reader.proofs.Laws.Met.{read_refused}
use Rattle.reader.proofs.read.Goals as goal

pub returns-in_err-o : goal.returns-in_err-o
returns-in_err-o c =
    let l = c.args.frame.now in
    let p = err_from_is_err_and c.from_residual.result c.from_residual.ensures.1 in
    rw (p.1, p.2) (read_refused _ (read_of c.args.kind l) l c.args.«data».now c.args.entries.now c.in_err-o.ensures.says)

pub read_fields-requires : goal.read_fields-requires
read_fields-requires c = c.in_ok-o.ensures.part

pub returns : goal.returns
returns c =
    subst
    (λ (a : Answer Message). ReadMet c.read_fields.result a c.args.frame.now c.args.«data».now c.read_fields.new.«data» c.args.entries.now c.read_fields.new.entries)
    c.in_ok-o.ensures.says c.read_fields.ensures
