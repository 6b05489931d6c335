-- `read_file_reference::maps::bank_map_at` meets its contract, by the length, the number of maps and their flags.
-- Assumes nothing.
use mathlib.Core.Path.{◌≡◌, sym, ap, ◌∙◌}
use Prim.Native.Nat.{ℕ, ◌+◌, ◌*◌, ◌-◌}
use native.Mathlib.Omega.{arith}
use lib.ListN.{length, get_or}
use Rattle.messages.specs.Maps.{bank_only}
use Rattle.read_file_reference.specs.Maps.{flags_fit}
use Rattle.read_file_reference.proofs.Laws.Picks.{bank_other, bank_maps_found, bank_flags, picks_none}
use Rattle.read_file_reference.proofs.maps.bank_map_at.Goals as goal

pub returns-then-length-n : goal.returns-then-length-n
returns-then-length-n c =
    let f = c.args.f.now in
    let i = c.args.i in
    let l = c.len.ensures.size in
    picks_none bank_only f i
    (bank_other f c.len.ensures.seven i c.requires (λ x. c.if-length-eq7.false (omega arith)) (λ x. c.if-length-n.true (omega (arith, c.at-n.ensures))))

pub returns-then-flags_fit : goal.returns-then-flags_fit
returns-then-flags_fit c =
    let f = c.args.f.now in
    let i = c.args.i in
    let l : c.len.result ≡ length f = c.len.ensures.size in
    rw l
    (bank_maps_found f c.len.ensures.seven i c.requires _ c.at-n.ensures (omega (arith, c.if-length-n.false)) (sym c.flags_fit.ensures ∙ c.if-flags_fit.true))

pub returns-else-flags_fit : goal.returns-else-flags_fit
returns-else-flags_fit c =
    let f = c.args.f.now in
    let i = c.args.i in
    let l = c.len.ensures.size in
    let e = c.at-n.ensures in
    let n : length f - i ≡ 1 + 8 * get_or f i 0 = omega (arith, c.if-length-n.false) in
    let t = sym (ap (λ (v : ℕ). flags_fit f (i + 1) v) e) ∙ sym c.flags_fit.ensures ∙ c.if-flags_fit.false in
    picks_none bank_only f i (bank_flags f c.len.ensures.seven i c.requires n (λ x. c.if-length-eq7.false (omega arith)) t)
