-- `read_file_reference::maps::offset_at` meets its contract, by the four bytes and the flag.
-- Assumes nothing.
use mathlib.Core.Path.{◌≡◌, sym, ap, subst, ◌∙◌}
use mathlib.Core.Bool.{Bool}
use mathlib.Core.Option.{some}
use mathlib.Core.List.{List}
use Prim.Native.Nat.{ℕ, ◌+◌, ◌<◌}
use native.Mathlib.Omega.{arith}
use lib.ListN.{drop, get_or}
use Rattle.util.specs.Groups.{Seven}
use Rattle.util.specs.Options.{only_if}
use Rattle.messages.proofs.Entries.{set_test}
use Rattle.read_file_reference.proofs.Laws.Maps.{offset_read}
use Rattle.read_file_reference.proofs.maps.offset_at.Goals as goal

pub returns-then-flag-le1 : goal.returns-then-flag-le1
returns-then-flag-le1 c =
    let f = c.args.f.now in
    let i = c.args.i in
    let s = subst (λ (l : List ℕ). Seven l) c.f.view_is c.f.invariant in
    let v : c.at-flag.result ≡ get_or f (i + 6) 0 = c.at-flag.ensures ∙ ap (λ (l : List ℕ). get_or l (i + 6) 0) c.f.view_is in
    let e = sym c.spells.ensures ∙ ap (λ (t : Bool). only_if t (some (drop (i + 4) f))) c.if-spells.true in
    let g : get_or f (i + 6) 0 < 2 = omega (arith, c.if-flag-le1.true) in
    (s, rw (c.u14_at.ensures, v, set_test _ g) (sym (offset_read f s i c.requires.0 e (omega arith))))
