-- `reader::opening::opening_under` meets its contract: the fields follow the head, up to the checksum where there is one.
-- Assumes nothing.
use mathlib.Core.Path.{◌≡◌, sym, ap, ◌∙◌}
use mathlib.Core.Bool.{Bool}
use mathlib.Core.List.{List}
use Prim.Native.Nat.{ℕ, ◌+◌}
use native.Mathlib.Omega.{arith}
use lib.ListN.{length, take, drop}
use Rattle.util.proofs.Laws.Splice.{tail_drop}
use Rattle.messages.specs.Layouts.{form, code, summed}
use Rattle.messages.specs.Messages.{plain_answer, read_fields}
use Rattle.read_places.proofs.Laws.Heads.{code_short}
use Rattle.reader.specs.Opening.{device_at, fields_in}
use Rattle.reader.proofs.Laws.Sums.{sum_true}
use Rattle.reader.proofs.Laws.Opening.{opens_with}
use Rattle.reader.proofs.opening.opening_under.Goals as goal

pub overflow_add-n : goal.overflow_add-n
overflow_add-n c = omega (arith, c.size-n.ensures, code_short c.args.h)

pub summed_opening-requires : goal.summed_opening-requires
summed_opening-requires c =
    let z = c.size-n.ensures in
    let e : 2 + length (code c.args.h) ≡ 2 + c.size-n.result = omega arith in
    (c.requires.0, omega (arith, code_short c.args.h, c.requires.1), omega arith, c.requires.2 ∙ ap (λ (k : ℕ). take k c.args.mid.now) e)

pub returns-then-is_summed : goal.returns-then-is_summed
returns-then-is_summed c =
    let mid = c.args.mid.now in
    let h = c.args.h in
    let z = c.size-n.ensures in
    let e : 2 + c.size-n.result ≡ 2 + length (code h) = omega arith in
    opens_with c.summed_opening.ensures
    (ap (λ (t : Bool). read_fields (device_at mid) h t (drop (2 + c.size-n.result) mid)) (sym c.if-is_summed.true ∙ c.is_summed.ensures)
    ∙ ap (λ (k : ℕ). read_fields (device_at mid) h (summed h) (drop k mid)) e)

pub returns : goal.returns
returns c =
    let mid = c.args.mid.now in
    let h = c.args.h in
    let n = 2 + c.size-n.result in
    let z = c.size-n.ensures in
    let e : 2 + c.size-n.result ≡ 2 + length (code h) = omega arith in
    record {
      says = sym (sum_true (device_at mid) h ((form h).read (fields_in mid n (length mid))))
          ∙ ap (λ (l : List ℕ). plain_answer (device_at mid) h ((form h).read l)) (tail_drop mid n)
          ∙ ap (λ (t : Bool). read_fields (device_at mid) h t (drop n mid)) (sym c.if-is_summed.false ∙ c.is_summed.ensures)
          ∙ ap (λ (k : ℕ). read_fields (device_at mid) h (summed h) (drop k mid)) e;
      part = (c.requires.0, omega arith, omega (arith, code_short h, c.requires.1), omega arith);
    }
