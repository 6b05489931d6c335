-- `write_lists::text::put_filled` meets its contract: what is there, and after it what is filled.
-- Assumes nothing.
use mathlib.Core.List.{◌++◌}
use mathlib.Core.Path.{◌≡◌, refl, sym, ap, ◌∙◌}
use Prim.Native.Nat.{ℕ, ◌-◌, min}
use native.Mathlib.Omega.{arith}
use lib.Seq.{length-take-le}
use lib.ListN.{length, take, replicate, length-replicate}
use Rattle.util.proofs.Laws.Splice.{Run, run_part}
use Rattle.messages.specs.Fields.{u7}
use Rattle.messages.specs.format.Core.{written}
use Rattle.write_lists.specs.Writing.{each, low}
use Rattle.write_lists.proofs.Laws.Fronts.{fronts}
use Rattle.write_lists.proofs.Laws.Lists.{each_length}
use Rattle.write_lists.proofs.Laws.Texts.{fill_split}
use Rattle.write_lists.proofs.text.put_filled.Goals as goal

pub returns : goal.returns
returns c =
    let k = c.min-k.result in
    let t = take k c.args.s.now in
    let m : k ≡ min (length c.args.s.now) c.args.n = omega (arith, c.min-k.ensures) in
    let b : c.min.result ≡ low c.args.f = omega (arith, c.min.ensures) in
    let n : length t ≡ k = length-take-le k c.args.s.now (omega arith) in
    let r : Run c.args.out.now (each (written u7) t) c.put_each.new.out k =
    record { is = c.put_each.ensures; len = each_length (written u7) 1 (λ a. refl) t ∙ omega arith; fits = omega (arith, c.requires) } in
    (run_part r c.fill.new.out (replicate (c.args.n - k) c.min.result) (c.args.n - k) (length-replicate _ _)
    (omega (arith, c.requires)) c.fill.ensures).is
    ∙ fronts c.args.out.now (ap (λ (v : ℕ). each (written u7) t ++ replicate (c.args.n - k) v) b ∙ sym (fill_split c.args.f c.args.n k c.args.s.now m))
