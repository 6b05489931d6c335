-- `numbers_read::read_any` meets its contract: what the opening has found, or its refusal.
-- Assumes nothing.
use mathlib.Core.Path.{refl}
use Rattle.std.proofs.lemmas.Result.{err_from_is_err_and}
use Rattle.std.specs.Prelude.{Err}
use Rattle.messages.specs.Messages.{read_of}
use Rattle.reader.proofs.Laws.Met.{read_refused}
use Rattle.numbers_read.proofs.Plain.{read_to}
use Rattle.numbers_read.proofs.read_any.Goals as goal

pub returns-in_err-o : goal.returns-in_err-o
returns-in_err-o c =
    let l = c.args.frame.now in
    let p = err_from_is_err_and c.from_residual.result c.from_residual.ensures.1 in
    rw (p.1, p.2)
    (record {
      reading = Err c.in_err-o.field-0.0;
      met = read_refused c.in_err-o.field-0.0 (read_of c.args.kind l) l c.args.«data».now c.args.entries.now c.in_err-o.ensures.says;
      number_is = refl;
      answer_is = refl;
    })

pub read_opened-requires : goal.read_opened-requires
read_opened-requires c = (c.requires, c.in_ok-o.ensures.part)

pub returns : goal.returns
returns c = read_to c.in_ok-o.ensures.says c.read_opened.ensures
