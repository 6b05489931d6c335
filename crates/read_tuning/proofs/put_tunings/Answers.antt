-- `read_tuning::put_tunings` meets its contract: each entry is put.
-- Assumes nothing.
use borrow.Author.Rules.{rules}
use mathlib.Core.Path.{◌≡◌}
use Prim.Native.Nat.{ℕ, ◌+◌, ◌*◌}
use lib.ListN.{get_or}
use Rattle.messages.specs.Entries.{tuning_entry}
use Rattle.read_places.specs.Places.{tuning_at}
use Rattle.read_places.proofs.Laws.Puts.{entries_put}
use Rattle.read_tuning.proofs.put_tunings.Goals as goal

pub returns : goal.returns
returns c =
    let a = c.args in
    let g : ℕ → ℕ = λ j. tuning_entry (tuning_at a.f.now j) in
    entries_put g 3 a.n a.at a.out.now c.put_each.new.out c.put_each.ensures.long c.requires.0
    (λ k l. let p = c.put_each.ensures.put k l in let q : get_or c.put_each.new.out k 0 ≡ g (a.at + 3 * k) = search rules in q)
    c.put_each.ensures.rest
