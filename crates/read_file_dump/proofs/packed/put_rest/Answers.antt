-- `read_file_dump::packed::put_rest` meets its contract. The invariant: the data of the bytes that are left, put on what is there, gives what all give.
-- Assumes nothing.
use mathlib.Core.Path.{◌≡◌, refl, sym, ap, ◌∙◌}
use Prim.Native.Nat.{◌+◌, ◌^◌, ◌≤◌, ◌<◌}
use native.Mathlib.Omega.{arith}
use native.Mathlib.Nat.{zero-add}
use lib.ListN.{length, drop, get_or, length-append}
use borrow.Author.Rules.{rules}
use Rattle.util.proofs.Laws.Splice.{item_turn, item_done, tail_room}
use Rattle.util.specs.Splice.{splice}
use Rattle.read_places.proofs.Laws.Numbers.{seven_get}
use Rattle.read_places.specs.Places.{next_k, next_tops, data_byte, data_from}
use Rattle.read_file_dump.proofs.Laws.Steps.{data_turn, data_none, next_k_small, next_tops_small}
use Rattle.read_file_dump.proofs.packed.put_rest.Goals as goal
use Rattle.read_file_dump.proofs.packed.put_rest.Goals.{In-loop-b}

-- what is left: this byte's data, and the others'
split : (c : In-loop-b)
    → let l = c.loop-b in let x = c.args.s.now in let y = get_or x l.b-index 0 in
    length (data_from l.k l.t (drop l.b-index x)) ≡ length (data_byte l.k l.t y) + length (data_from (next_k l.k) (next_tops l.k l.t y) (drop (l.b-index + 1) x))
split c =
    let l = c.loop-b in
    let x = c.args.s.now in
    ap length (data_turn l.k l.t l.b-index x c.loop-b-test.true) ∙ length-append (data_byte l.k l.t (get_or x l.b-index 0)) _

room : (c : In-loop-b)
    → let l = c.loop-b in let x = c.args.s.now in let y = get_or x l.b-index 0 in
    (y < 128) × (l.at + length (data_byte l.k l.t y) ≤ length l.out) × (length l.out < 2 ^ 64)
room c =
    let l = c.loop-b in
    (seven_get c.args.s.now l.b-index c.requires.0, omega (arith, split c, l.invariant, c.requires.1), omega (arith, l.invariant.2, c.well_formed.0.0))

pub loop-b-init : goal.loop-b-init
loop-b-init c = (search rules, search rules, refl, zero-add _, refl)

pub put_data_byte-at-requires : goal.put_data_byte-at-requires
put_data_byte-at-requires c = let l = c.loop-b in let w = room (goal.at.put_data_byte-at-requires c).In-loop-b in (l.invariant.0, l.invariant.1, w.0, tail_room l.out l.at _ w.1)

pub overflow_add-at : goal.overflow_add-at
overflow_add-at c = let w = room (goal.at.overflow_add-at c).In-loop-b in omega (arith, c.put_data_byte-at.ensures.0)

pub loop-b-preserved : goal.loop-b-preserved
loop-b-preserved c =
    let l = c.loop-b in
    let p = c.put_data_byte-at in
    let x = c.args.s.now in
    let y = get_or x l.b-index 0 in
    let h : l.b-index < length x = c.loop-b-test.true in
    let w = room (goal.at.loop-b-preserved c).In-loop-b in
    let q = split (goal.at.loop-b-preserved c).In-loop-b in
    let t =
    item_turn l.out p.new.out (data_byte l.k l.t y) (data_from (next_k l.k) (next_tops l.k l.t y) (drop (l.b-index + 1) x)) _ l.at
    p.result (sym p.ensures.0) (omega (arith, p.ensures.0)) p.ensures.1
    (ap (splice l.out l.at) (sym (data_turn l.k l.t l.b-index x h)) ∙ l.invariant.4) in
    rw (c.next_k-k.ensures, c.next_tops-t.ensures) (
      next_k_small l.k l.invariant.0,
      next_tops_small l.k l.t y w.0,
      t.0 ∙ l.invariant.2,
      omega (arith, p.ensures.0),
      t.1,
    )

pub returns : goal.returns
returns c =
    let l = c.loop-b in
    item_done l.out _ _ l.at (data_none l.k l.t c.args.s.now l.b-index c.loop-b-test.false) l.invariant.4
