-- `desk_print::output::add` meets its contract. Gathered at once, or after what was gathered is written out, or sent.
-- Assumes nothing.
use mathlib.Core.Path.{ap, ◌∙◌}
use Rattle.desk_print.specs.Output.{gathered}
use Rattle.desk_print.proofs.Laws.{added_here, added_next, added_sent}
use Rattle.desk_print.proofs.output.add.Goals as goal

pub returns-then-gather : goal.returns-then-gather
returns-then-gather c = let g = c.gather.ensures in added_here (g.fits c.if-gather.true) (g.done c.if-gather.true)

pub send-requires : goal.send-requires
send-requires c =
    ap gathered (c.gather-2.ensures.refused (c.if-not-gather.true)) ∙ c.flush.ensures.empty

pub returns-then-not-gather : goal.returns-then-not-gather
returns-then-not-gather c =
    let g = c.gather.ensures in
    let l = c.if-gather.false in
    let h = c.gather-2.ensures in
    let m = c.if-not-gather.true in
    added_sent (g.refused l) (g.full l) c.flush.ensures (h.refused m) (h.full m) c.send.ensures

pub returns-else-not-gather : goal.returns-else-not-gather
returns-else-not-gather c =
    let g = c.gather.ensures in
    let l = c.if-gather.false in
    added_next (g.refused l) (g.full l) c.flush.ensures (c.gather-2.ensures.done (c.if-not-gather.false))
