-- `desk_files::walks::each_frame` meets its contract. The invariant: the frames so far that begin before the next piece are visited.
-- Assumes nothing.
use denote.Param.Always.{always_mut}
use lib.ListN.{take}
use Rattle.messages.specs.Walk.{frames}
use Rattle.desk_files.proofs.Laws.Walks.{Visited}
use Rattle.desk_files.proofs.walks.each_frame.Given as goal

abbrev pub invariant-loop-from : goal.invariant-loop-from
invariant-loop-from g l =
    (always_mut g.F.FnMut l.initial.visit → always_mut g.F.FnMut l.visit)
    × Visited (λ p x q. goal.F-step g p x tt q) l.piece.bytes.now l.piece.offset l.next l.initial.visit (take l.from-index (frames l.fn.kind l.piece.bytes.now)) l.visit
