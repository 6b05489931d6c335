-- `numbers_read::read_fields` meets its contract: the answer of the reader, and its numbers.
-- Assumes nothing.
use mathlib.Core.Path.{refl}
use Rattle.std.proofs.lemmas.Result.{err_from_is_err_and}
use Rattle.std.specs.Prelude.{Ok, Err}
use Rattle.numbers_read.proofs.read_fields.Goals as goal

pub returns-in_err-reading : goal.returns-in_err-reading
returns-in_err-reading c =
    let p = err_from_is_err_and c.from_residual.result c.from_residual.ensures.1 in
    rw (p.1, p.2)
    (record { reading = Err c.in_err-reading.field-0.0; met = c.in_err-reading.ensures; number_is = refl; answer_is = refl })

pub returns : goal.returns
returns c =
    record { reading = Ok c.in_ok-reading.reading; met = c.in_ok-reading.ensures; number_is = refl; answer_is = c.put_reading.ensures }
