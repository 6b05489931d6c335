-- `desk_print::names::path` meets its contract. The invariant: the texts of the bytes so far are put, and the byte before is known.
-- Assumes nothing.
use mathlib.Core.Path.{refl, ap}
use Prim.Native.Nat.{ℕ}
use native.Mathlib.Omega.{arith}
use lib.ListN.{get_or}
use native.Mathlib.Numerals.{add-one}
use Rattle.desk_print.specs.Text.{path_char}
use Rattle.desk_print.proofs.Laws.{put_as}
use Rattle.desk_print.proofs.Texts.{each_begin, each_turn, each_end}
use Rattle.desk_print.proofs.names.path.Goals as goal

pub loop-b-init : goal.loop-b-init
loop-b-init c = (refl, each_begin path_char c.args.s.now c.args.out.now)

pub loop-b-preserved : goal.loop-b-preserved
loop-b-preserved c =
    let l = c.loop-b in
    let s = c.args.s.now in
    (rw add-one, each_turn path_char s l.b-index (omega arith) l.invariant.1 (put_as (ap (λ (p : ℕ). path_char p (get_or s l.b-index 0)) l.invariant.0) c.put_path_char.ensures))

pub returns : goal.returns
returns c = each_end path_char c.args.s.now c.loop-b.b-index (omega arith) c.loop-b.invariant.1
