-- `read_file_reference::open` meets its contract: the URL ends the fields.
-- Assumes nothing.
use mathlib.Core.Path.{sym, ◌∙◌}
use Rattle.read_file_reference.proofs.Laws.Heads.{open_more, open_said, open_found}
use Rattle.read_file_reference.proofs.open.Goals as goal

pub returns-then-len-url : goal.returns-then-len-url
returns-then-len-url c =
    let x = c.in_ok-file_type in
    open_more c.args.f.now x.file_type x.url x.ensures (λ e. c.if-len-url.true (c.len.ensures.size ∙ e))

pub returns-then-said-url : goal.returns-then-said-url
returns-then-said-url c =
    let x = c.in_ok-file_type in
    open_said c.args.f.now x.file_type x.url x.ensures (sym c.len.ensures.size ∙ c.if-len-url.false) (λ e. c.if-said-url.true (c.said.ensures.1 ∙ e))

pub returns : goal.returns
returns c =
    let x = c.in_ok-file_type in
    rw c.u14_at.ensures
    (open_found c.args.f.now x.file_type x.url x.ensures (sym c.len.ensures.size ∙ c.if-len-url.false) (sym c.said.ensures.1 ∙ c.if-said-url.false))
