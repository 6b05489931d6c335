-- `read_file_reference::select_of` meets its contract, by the map found and the length said.
-- Assumes nothing.
use mathlib.Core.Path.{sym, ◌∙◌}
use Rattle.read_file_reference.proofs.Laws.Selects.{select_nothing, select_unsaid, select_found}
use Rattle.read_file_reference.proofs.select_of.Goals as goal

pub returns-in_err-picked : goal.returns-in_err-picked
returns-in_err-picked c =
    rw (c.in_err-picked.was, c.from_residual.ensures) (select_nothing c.args.f.now c.said-length.ensures.0 c.requires)

pub returns-then-length-picked : goal.returns-then-length-picked
returns-then-length-picked c =
    let s = c.said-length.ensures in
    rw c.in_ok-picked.was (select_unsaid c.args.f.now s.0 c.requires (λ e. c.if-length-picked.true (s.1 ∙ e)))

pub returns : goal.returns
returns c =
    let s = c.said-length.ensures in
    rw (c.in_ok-picked.was, c.u14_at.ensures) (select_found c.args.f.now s.0 c.requires (sym s.1 ∙ c.if-length-picked.false))
