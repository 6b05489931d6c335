-- `writer::handshake::write_handshake` meets its contract: without room SPACE, with room the frame at the place.
-- Assumes nothing.
use mathlib.Core.List.{List}
use mathlib.Core.Path.{sym, ap, ◌∙◌}
use Prim.Native.Nat.{ℕ, ◌-◌}
use lib.ListN.{length, take, drop}
use Rattle.util.specs.Splice.{overwritten}
use Rattle.util.proofs.Laws.Splice.{part_put}
use Rattle.messages.specs.Fields.{device_byte}
use Rattle.writer.specs.Handshakes.{handshake_frame}
use Rattle.writer.proofs.Laws.Answers.{no_room, in_room}
use Rattle.writer.proofs.Laws.Handshakes.{six}
use Rattle.writer.proofs.handshake.write_handshake.Goals as goal

pub returns-then-not-has_room : goal.returns-then-not-has_room
returns-then-not-has_room c =
    let d = device_byte c.args.device in
    no_room (handshake_frame d c.args.a c.args.n) c.args.out.now c.args.place (rw (six d c.args.a c.args.n) (sym c.has_room.ensures ∙ c.if-not-has_room.true))

pub returns : goal.returns
returns c =
    let d = device_byte c.args.device in
    let k = six d c.args.a c.args.n in
    let f : List ℕ = handshake_frame d c.args.a c.args.n in
    in_room f c.args.out.now _ c.args.place 6 (rw k (sym c.has_room.ensures ∙ c.if-not-has_room.false)) (sym k)
    (part_put c.args.out.now c.put_handshake.new.out f c.args.place
    (c.put_handshake.ensures
    ∙ ap (λ (v : ℕ). overwritten (handshake_frame v c.args.a c.args.n) (take (length c.args.out.now - c.args.place) (drop c.args.place c.args.out.now)))
    c.from-d.ensures))
