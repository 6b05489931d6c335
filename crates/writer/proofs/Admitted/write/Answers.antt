-- `writer::Admitted::write` meets its contract: without room SPACE, with room the frame at the place.
-- Assumes nothing.
use mathlib.Core.List.{List}
use mathlib.Core.Path.{◌≡◌, sym, ◌∙◌}
use Prim.Native.Nat.{ℕ}
use native.Mathlib.Omega.{arith}
use lib.ListN.{length}
use Rattle.util.proofs.Laws.Splice.{tail_room, part_put}
use Rattle.writer.specs.Frames.{frame_of}
use Rattle.writer.proofs.Laws.Sums.{total_is}
use Rattle.writer.proofs.Laws.Answers.{no_room, in_room, room_fits}
use Rattle.writer.proofs.Admitted.write.Goals as goal

pub returns-then-not-has_room : goal.returns-then-not-has_room
returns-then-not-has_room c =
    let counted = total_is c.sizes-s.result c.args.device c.args.self.now.m c.args.self.now.text c.args.self.now.entries _ c.sizes-s.ensures c.total-n.ensures in
    no_room (frame_of c.args.device c.args.self.now.m c.args.self.now.text c.args.self.now.entries) c.args.out.now c.args.place (rw (sym counted) (sym c.has_room.ensures ∙ c.if-not-has_room.true))

pub put-requires : goal.put-requires
put-requires c =
    let counted : c.total-n.result ≡ length (frame_of c.args.device c.args.self.now.m c.args.self.now.text c.args.self.now.entries) = total_is c.sizes-s.result c.args.device c.args.self.now.m c.args.self.now.text c.args.self.now.entries _ c.sizes-s.ensures c.total-n.ensures in
    let fits = room_fits (length c.args.out.now) c.args.place c.total-n.result (sym c.has_room.ensures ∙ c.if-not-has_room.false) in
    (c.sizes-s.ensures, tail_room c.args.out.now c.args.place _ (omega (arith, counted, fits)))

pub returns : goal.returns
returns c =
    let counted = total_is c.sizes-s.result c.args.device c.args.self.now.m c.args.self.now.text c.args.self.now.entries _ c.sizes-s.ensures c.total-n.ensures in
    let f : List ℕ = frame_of c.args.device c.args.self.now.m c.args.self.now.text c.args.self.now.entries in
    in_room f c.args.out.now _ c.args.place c.total-n.result (rw (sym counted) (sym c.has_room.ensures ∙ c.if-not-has_room.false)) counted
    (part_put c.args.out.now c.put.new.out f c.args.place c.put.ensures)
