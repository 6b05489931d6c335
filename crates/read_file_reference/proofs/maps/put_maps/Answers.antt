-- `read_file_reference::maps::put_maps` meets its contract: each entry is put.
-- Assumes nothing.
use borrow.Author.Rules.{rules}
use mathlib.Core.Path.{◌≡◌}
use Prim.Native.Nat.{ℕ, ◌+◌, ◌*◌}
use lib.ListN.{get_or}
use Rattle.messages.specs.Entries.{map_entry}
use Rattle.read_places.specs.Places.{map_at}
use Rattle.read_places.proofs.Laws.Puts.{entries_put}
use Rattle.read_file_reference.proofs.maps.put_maps.Goals as goal

pub returns : goal.returns
returns c =
    let a = c.args in
    let g : ℕ → ℕ = λ j. map_entry (map_at a.f.now j) in
    entries_put g 8 a.n a.at a.out.now c.put_each.new.out c.put_each.ensures.long c.requires.0
    (λ k l. let p = c.put_each.ensures.put k l in let q : get_or c.put_each.new.out k 0 ≡ g (a.at + 8 * k) = search rules in q)
    c.put_each.ensures.rest
