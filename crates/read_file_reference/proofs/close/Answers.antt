-- `read_file_reference::close` meets its contract: a length and two bytes of 00.
-- Assumes nothing.
use mathlib.Core.Path.{sym, ◌∙◌}
use Rattle.read_file_reference.proofs.Laws.Heads.{close_found}
use Rattle.read_file_reference.proofs.close.Goals as goal

pub returns : goal.returns
returns c =
    let l = c.len.ensures in
    rw (c.numbers.ensures, c.u14_at.ensures)
    (close_found c.args.f.now l.seven (sym l.size ∙ c.if-len-ne4.false) (sym c.at.ensures ∙ c.if-at-ne0.false) (sym c.at-2.ensures ∙ c.if-at-ne0-2.false))
