-- `desk_files::walks::each_piece` meets its contract. A visit is the last, or the visits of the next piece follow it.
-- Assumes nothing.
use mathlib.Core.Path.{◌≡◌, refl}
use mathlib.Core.Logic.{inl, inr}
use mathlib.Core.Bool.{true}
use mathlib.Core.List.{[]}
use native.Mathlib.Omega.{arith}
use denote.Param.Always.{mut_next}
use borrow.Author.Rules.{rules}
use lib.ListN.{length, take, length-take}
use Rattle.desk_files.proofs.Laws.Walks.{ends_here, fails_here, goes_on}
use Rattle.desk_files.proofs.walks.each_piece.Goals.{then-not-wants_more-via-then-not-wants_more, then-not-wants_more-via-else-not-wants_more+then-piece-lt-PIECE}
use Rattle.desk_files.proofs.walks.each_piece.Goals as goal

pub returns-then-not-wants_more : goal.returns-then-not-wants_more
returns-then-not-wants_more g c =
    let l = c.loop-turn in
    ends_here l.invariant.3 c.wants_more.ensures refl
    (elim c.then-not-wants_more.branch [
      | then-not-wants_more-via-then-not-wants_more w ↦ inl (search rules)
      | then-not-wants_more-via-else-not-wants_more+then-piece-lt-PIECE w ↦ inr (omega (arith, w.if-piece-lt-PIECE.true, length-take l.piece.len l.room))
    ])

pub returns-in_err-piece : goal.returns-in_err-piece
returns-in_err-piece g c =
    let l = c.loop-turn in
    fails_here l.invariant.3 c.wants_more.ensures refl (search rules) (search rules)
    (omega (arith, c.if-piece-lt-PIECE.false, length-take l.piece.len l.room, l.invariant.1, l.invariant.2))

pub loop-turn-preserved : goal.loop-turn-preserved
loop-turn-preserved g c =
    let l = c.loop-turn in
    let q = c.in_ok-piece.ensures in
    let e : length (take l.piece.len l.room) ≡ l.piece.len = omega (arith, length-take l.piece.len l.room, l.invariant.1, l.invariant.2) in (
      λ h. mut_next _ _ _ _ _ _ c.wants_more.ensures refl (l.invariant.0 h),
      search rules,
      search rules,
      λ ps x t.
          goes_on l.invariant.3 c.wants_more.ensures refl c.next.new.room ps (search rules) (omega (arith, e, c.if-piece-lt-PIECE.false)) (rw e c.next_start.ensures) q.kept.0 q.kept.1
          (rw (← q.base) t),
    )

pub returns : goal.returns
returns g c =
    let l = c.loop-turn in
    l.invariant.3 [] true (omega (arith, c.loop-turn-test.false, l.auto.turn-end), refl)
