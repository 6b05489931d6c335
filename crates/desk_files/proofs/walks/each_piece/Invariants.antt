-- `desk_files::walks::each_piece` meets its contract. The invariant: a piece is within the buffer, a visit may be made, and the visits from here on
-- go on those that were made.
-- Assumes nothing.
use Rattle.std.proofs.Common.{◌≡◌, ◌≤◌, List, Bool, length, take}
use denote.Param.Always.{always_mut}
use Rattle.desk_files.specs.declared.frames.Part as part
use Rattle.desk_files.specs.Walks.{InTurn}
use Rattle.desk_files.proofs.walks.each_piece.Given as goal

abbrev pub invariant-loop-turn : goal.invariant-loop-turn
invariant-loop-turn g l =
    (always_mut g.F.FnMut l.initial.wants_more → always_mut g.F.FnMut l.wants_more)
    × (length l.room ≡ length l.initial.room) × (l.piece.len ≤ length l.initial.room)
    × ((ps : List part.Part) (e : Bool) → InTurn (λ f n p b k. goal.F-step g f n p b k) l.wants_more l.turn l.piece.base (take l.piece.len l.room) ps e
    → (qs : List part.Part) × InTurn (λ f n p b k. goal.F-step g f n p b k) l.initial.wants_more 0 l.fn.first.base (take l.fn.first.len l.initial.room) qs e)
