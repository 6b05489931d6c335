-- `write_lists::text::put_url` meets its contract: the bytes that are kept, and after them 00.
-- Assumes nothing.
use mathlib.Core.List.{[], ◌∷◌, ◌++◌}
use mathlib.Core.Path.{◌≡◌, sym, ap, ◌∙◌}
use Prim.Native.Nat.{ℕ}
use native.Mathlib.Omega.{arith}
use lib.Seq.{length-take-le}
use lib.ListN.{length, take}
use Rattle.util.proofs.Laws.Splice.{Run, run_set}
use Rattle.write_lists.proofs.Laws.Fronts.{fronts}
use Rattle.write_lists.proofs.Laws.Texts.{url_is}
use Rattle.write_lists.proofs.text.put_url.Goals as goal
use Rattle.write_lists.proofs.text.put_url.Goals.{After-min-n}

-- the bytes that are kept
many : (c : After-min-n) → length (take c.min-n.result c.args.s.now) ≡ c.min-n.result
many c = length-take-le c.min-n.result c.args.s.now (omega (arith, c.min-n.ensures))

pub slice_bounds-copy-end : goal.slice_bounds-copy-end
slice_bounds-copy-end c = sym (many (goal.at.slice_bounds-copy-end c).After-min-n)

pub copy-requires : goal.copy-requires
copy-requires c = omega (arith, many (goal.at.copy-requires c).After-min-n, c.min-n.ensures, c.requires)

pub returns : goal.returns
returns c =
    let r : Run c.args.out.now (take c.min-n.result c.args.s.now) c.copy.new.out c.min-n.result =
    record { is = c.copy.ensures; len = many (goal.at.returns c).After-min-n; fits = omega (arith, c.requires, c.min-n.ensures) } in
    (run_set r 0 (omega (arith, c.requires, c.min-n.ensures))).is
    ∙ fronts c.args.out.now (ap (λ (v : ℕ). take v c.args.s.now ++ (0 ∷ [])) c.min-n.ensures ∙ sym (url_is c.args.s.now))
