-- `numbers_write::sample_dump::write_header` meets its contract: without room SPACE, with room the frame at the place.
-- Assumes nothing.
use mathlib.Core.List.{List}
use mathlib.Core.Path.{◌≡◌, sym, ap, ◌∙◌}
use Prim.Native.Nat.{ℕ}
use lib.ListN.{length}
use Rattle.util.proofs.Laws.Splice.{part_put}
use Rattle.messages.specs.Fields.{device_byte}
use Rattle.messages.specs.Messages.{given, write_of}
use Rattle.write_fronts.proofs.Laws.{put}
use Rattle.writer.proofs.Laws.Answers.{no_room, in_room}
use Rattle.numbers_write.specs.Messages.{header_message}
use Rattle.numbers_write.proofs.Samples.{header_frame, header_length, header_written}
use Rattle.numbers_write.proofs.sample_dump.write_header.Goals as goal
use Rattle.numbers_write.proofs.sample_dump.write_header.Goals.{Start}

-- the frame, for a device byte
abbrev F : Start → ℕ → List ℕ
F c v = header_frame v c.args.sample c.args.format c.args.period c.args.len c.args.start c.args.end c.args.kind

-- the frame of the message
abbrev G : Start → List ℕ
G c = F c (device_byte c.args.device)

-- how long the frame is
k : (c : Start) → length (G c) ≡ 21
k c = header_length (device_byte c.args.device) c.args.sample c.args.format c.args.period c.args.len c.args.start c.args.end c.args.kind

-- the frame is what is written
w : (c : Start)
    → write_of (header_message c.args.device c.args.sample c.args.format c.args.period c.args.len c.args.start c.args.end c.args.kind) ≡ given (G c)
w c = header_written c.args.device c.args.sample c.args.format c.args.period c.args.len c.args.start c.args.end c.args.kind

pub returns-then-not-has_room : goal.returns-then-not-has_room
returns-then-not-has_room c =
    rw (w (goal.at.returns-then-not-has_room c).Start)
    (no_room (G (goal.at.returns-then-not-has_room c).Start) c.args.out.now c.args.place
    (rw (k (goal.at.returns-then-not-has_room c).Start) (sym c.has_room.ensures ∙ c.if-not-has_room.true)))

pub returns : goal.returns
returns c =
    rw (w (goal.at.returns c).Start)
    (in_room (G (goal.at.returns c).Start) c.args.out.now _ c.args.place 21
    (rw (k (goal.at.returns c).Start) (sym c.has_room.ensures ∙ c.if-not-has_room.false))
    (sym (k (goal.at.returns c).Start))
    (part_put c.args.out.now c.put_header.new.out (G (goal.at.returns c).Start) c.args.place
    (put _ (ap (F (goal.at.returns c).Start) c.from-d.ensures) c.put_header.ensures)))
