-- `read_file_reference::open_select` meets its contract: the map follows the URL.
-- Assumes nothing.
use mathlib.Core.Path.{sym, ◌∙◌}
use Rattle.read_file_reference.proofs.Laws.OpenSelects.{found_nothing, found_unsaid, found_reads}
use Rattle.read_file_reference.proofs.open_select.Goals as goal

pub returns-in_err-picked : goal.returns-in_err-picked
returns-in_err-picked c =
    let x = c.in_ok-file_type in
    rw c.from_residual-in_err-picked.ensures (found_nothing c.args.f.now x.file_type x.url x.ensures c.in_err-picked.ensures)

pub returns-then-said-url : goal.returns-then-said-url
returns-then-said-url c =
    let x = c.in_ok-file_type in
    found_unsaid c.args.f.now x.file_type x.url x.ensures c.in_ok-picked.ensures (λ e. c.if-said-url.true (c.said.ensures.1 ∙ e))

pub returns : goal.returns
returns c =
    let x = c.in_ok-file_type in
    rw c.u14_at.ensures (found_reads c.args.f.now x.file_type x.url x.ensures c.in_ok-picked.ensures (sym c.said.ensures.1 ∙ c.if-said-url.false))
