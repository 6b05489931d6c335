-- `numbers_write::sample_dump::write_packet` meets its contract: without room SPACE, with room the frame at the place.
-- Assumes nothing.
use mathlib.Core.List.{List}
use mathlib.Core.Path.{◌≡◌, sym, ap, ◌∙◌}
use Prim.Native.Nat.{ℕ}
use borrow.Author.Rules.{rules}
use lib.ListN.{length}
use Rattle.util.proofs.Laws.Splice.{part_put}
use Rattle.messages.specs.Fields.{device_byte}
use Rattle.messages.specs.Messages.{given, write_of}
use Rattle.write_fronts.proofs.Laws.{put}
use Rattle.writer.proofs.Laws.Answers.{bytes_all, no_room, in_room}
use Rattle.numbers_write.specs.Messages.{packet_message}
use Rattle.numbers_write.proofs.Samples.{packet_frame, packet_length, packet_written}
use Rattle.numbers_write.proofs.sample_dump.write_packet.Goals as goal

-- the frame, for a device byte
abbrev F : ℕ → List ℕ → ℕ → List ℕ
F count text v = packet_frame v count text

pub returns-then-not-has_room : goal.returns-then-not-has_room
returns-then-not-has_room c =
    let G : List ℕ = F c.args.count c.args.text.now (device_byte c.args.device) in
    let k : length G ≡ 127 = packet_length (device_byte c.args.device) c.args.count c.args.text.now in
    let w : write_of (packet_message c.args.device c.args.count c.args.text.now) ≡ given G = packet_written c.args.device c.args.count c.args.text.now (bytes_all c.args.text.now (λ i. search rules)) in
    rw w
    (no_room G c.args.out.now c.args.place
    (rw k (sym c.has_room.ensures ∙ c.if-not-has_room.true)))

pub returns : goal.returns
returns c =
    let G : List ℕ = F c.args.count c.args.text.now (device_byte c.args.device) in
    let k : length G ≡ 127 = packet_length (device_byte c.args.device) c.args.count c.args.text.now in
    let w : write_of (packet_message c.args.device c.args.count c.args.text.now) ≡ given G = packet_written c.args.device c.args.count c.args.text.now (bytes_all c.args.text.now (λ i. search rules)) in
    rw w
    (in_room G c.args.out.now _ c.args.place 127
    (rw k (sym c.has_room.ensures ∙ c.if-not-has_room.false))
    (sym k)
    (part_put c.args.out.now c.put_packet.new.out G c.args.place
    (put _ (ap (F c.args.count c.args.text.now) c.from-d.ensures) c.put_packet.ensures)))
