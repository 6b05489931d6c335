-- `read_file_reference::maps::flags_fit` meets its contract: it tests the flags of each map.
-- Assumes nothing.
use Rattle.std.proofs.Common.{rules, ◌≡◌, ◌∙◌, ◌+◌, ◌*◌, refl, arith}
use Rattle.std.proofs.lemmas.Iterator.{YieldsList-from_range}
use Rattle.std.proofs.lemmas.Iterator.Search.{all_from_yields_List}
use Rattle.read_file_reference.proofs.Laws.Maps.{flags_all}
use Rattle.read_file_reference.proofs.maps.flags_fit.Goals as goal

pub returns : goal.returns
returns c =
    let z = c.args in
    let e : z.start + 8 * 0 ≡ z.start = omega arith in
    all_from_yields_List _ _ _ _ c.all.ensures.ran (YieldsList-from_range 0 z.n z.n refl (omega arith)) (λ x b q s. search rules)
    ∙ flags_all z.f.now z.start z.n 0 ∙ rw e
