-- What reading into numbers promises. Assumes nothing.
use mathlib.Core.Path.{sym, ap, ◌∙◌}
use Rattle.util.specs.Splice.{overwritten}
use Rattle.std.specs.Prelude.{Result}
use Rattle.util.specs.declared.refusal.Refusal.{Refusal}
use Rattle.reader.specs.declared.lent.Reading.{Reading}
use Rattle.reader.specs.Reading.{reading_number}
use Rattle.reader.proofs.Promises.{one_reading}
use Rattle.numbers_read.specs.Read.{reading_numbers}
use Rattle.numbers_read.specs.Promises.{OneReadFor}

pub one_read_for : OneReadFor
one_read_for k n m frame dat dat' dat'' es es' es'' answer answer' answer'' w v =
    let o = one_reading k w.reading v.reading frame dat dat' dat'' es es' es'' w.met v.met in (
      w.number_is ∙ ap reading_number o.0 ∙ sym v.number_is,
      o.1,
      o.2,
      w.answer_is ∙ ap (λ (r : Result Reading Refusal). overwritten (reading_numbers r) answer) o.0 ∙ sym v.answer_is,
    )
