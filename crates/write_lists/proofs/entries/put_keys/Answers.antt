-- `write_lists::entries::put_keys` meets its contract.
-- Assumes nothing.
use mathlib.Core.List.{List}
use mathlib.Core.Path.{◌≡◌, refl, sym, ap, ◌∙◌}
use Prim.Native.Nat.{ℕ, ◌+◌, ◌-◌, ◌*◌, ◌<◌}
use native.Mathlib.Omega.{arith}
use lib.ListN.{length, take, drop, get_or}
use Rattle.util.specs.Splice.{overwritten, splice}
use Rattle.util.proofs.Laws.Splice.{item_turn, item_done}
use Rattle.messages.specs.Entries.{tuning_of}
use Rattle.messages.specs.Fields.{tuning}
use Rattle.messages.specs.format.Core.{written}
use Rattle.write_lists.proofs.Laws.Keys.{keys_from, keys_turn, keys_done}
use Rattle.write_lists.proofs.entries.put_keys.Goals as goal

pub loop-i-preserved : goal.loop-i-preserved
loop-i-preserved c =
    let l = c.loop-i in
    let h : l.i < 128 = omega arith in
    let m : 3 * l.i + 3 ≡ 3 * (l.i + 1) = omega arith in
    let e = ap (λ (n : ℕ). written tuning (tuning_of n)) c.key_at.ensures in
    rw (← m) (item_turn l.out c.put.new.out (written tuning (tuning_of (get_or c.args.s.now l.i (l.i * 65536)))) (keys_from c.args.s.now (l.i + 1)) _ (3 * l.i) 3 refl
    (omega (arith, l.auto.out, c.requires)) (c.put.ensures ∙ ap (λ (x : List ℕ). overwritten x (take (length l.out - 3 * l.i) (drop (3 * l.i) l.out))) e)
    (ap (splice l.out (3 * l.i)) (sym (keys_turn c.args.s.now l.i h)) ∙ l.invariant)).1

pub returns : goal.returns
returns c = let l = c.loop-i in item_done l.out _ _ (3 * l.i) (keys_done c.args.s.now l.i (omega arith)) l.invariant
