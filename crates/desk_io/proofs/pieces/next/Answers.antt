-- `desk_io::pieces::next` meets its contract. What is read stands behind the bytes that moved to the start.
-- Assumes nothing.
use mathlib.Core.Path.{◌≡◌, sym, ap, ◌∙◌}
use mathlib.Core.List.{List}
use Prim.Native.Nat.{ℕ, ◌+◌, ◌-◌, ◌≤◌}
use native.Mathlib.Omega.{arith}
use borrow.Rule.Slice.PartMut.{put_mid}
use lib.ListN.{length, take, drop, length-drop}
use Rattle.std.specs.List.{copy_within}
use Rattle.std.proofs.lemmas.Slice.{take-put_mid_below}
use Rattle.std.proofs.lemmas.List.{drop-take}
use Rattle.std.proofs.lemmas.List.Edits.{take-paste}
use Rattle.desk_io.proofs.pieces.next.Goals as goal

-- the bytes that moved to the start, before what is put behind them
moved : (s t u : List ℕ) (at len k : ℕ) → at ≤ len → len ≤ length s → t ≡ copy_within s at len 0 → length t ≡ length s
    → take (len - at) (put_mid (len - at) k t u) ≡ drop at (take len s)
moved s t u at len k h l e n =
    let m : at + (len - at) ≡ len = omega arith in
    let z : len - at ≡ 0 + (len - at) = omega arith in
    take-put_mid_below (len - at) k t u (len - at) (omega arith) (omega arith)
    ∙ ap (take (len - at)) e
    ∙ ap (λ (i : ℕ). take i (copy_within s at len 0)) z
    ∙ take-paste s 0 (drop at s) (len - at) (omega arith) (omega (arith, length-drop at s))
    ∙ sym (drop-take at (len - at) s)
    ∙ ap (λ (i : ℕ). drop at (take i s)) m

pub returns-clause-kept : goal.returns-clause-kept
returns-clause-kept c =
    let a = c.args in
    let w = c.copy_within.ensures in
    (omega arith, moved a.room.now c.copy_within.new.self c.read_all.new.room a.at a.p.len _ c.requires.0 c.requires.1 w.after w.len)
