-- `replay_read::replay_frame` meets its contract: the numbers are a kind and two lengths, and what passes is a reading with so many lent places.
-- Assumes nothing.
use Rattle.std.proofs.Common.{rules, ◌≡◌, ◌≤◌, Bool, true, false, refl, ◌∙◌}
use Rattle.std.proofs.lemmas.List.{length-take-le}
use Rattle.std.specs.Prelude.{Result, Ok, Err}
use Rattle.replay_vectors.specs.declared.verdicts.Fault.{Fault}
use Rattle.replay_vectors.specs.declared.verdicts.Fault.TheVariants.{Failed}
use Rattle.replay_vectors.specs.Verdicts.{FindsOnly, number_at}
use Rattle.replay_read.specs.Replays.{code}
use Rattle.replay_read.proofs.replay_frame.Goals as goal

judged_finds : {F R : Type 0} (b : Bool) (r : Result (Unit {0}) Fault) → (b ≡ true → r ≡ Ok tt) → (b ≡ false → r ≡ Err Failed) → F → (b ≡ true → R)
    → FindsOnly r F R
judged_finds true r p q f t = rw (p refl) (f, t refl)
judged_finds false r p q f t = rw (q refl) f

pub returns : goal.returns
returns c =
    let n = c.args.case.numbers.now in
    let k : number_at n 0 ≡ code c.in_ok-kind.kind = search rules in
    let kind : number_at n 0 ≤ 1 = search rules in
    let x : number_at n 1 ≤ 70000 = search rules in
    let y : number_at n 2 ≤ 70000 = search rules in
    judged_finds c.is_read.result c.judged.result c.judged.ensures.passed c.judged.ensures.failed (search rules, kind, x, y)
    (λ e. record {
      kind = c.in_ok-kind.kind;
      dat = _;
      dat' = _;
      es = _;
      es' = _;
      kind_is = k;
      data_room = length-take-le c.number_at-x.result _ (search rules) ∙ c.number_at-x.ensures;
      entries_room = length-take-le c.number_at-y.result _ (search rules) ∙ c.number_at-y.ensures;
      reads = c.is_read.ensures e;
    })
