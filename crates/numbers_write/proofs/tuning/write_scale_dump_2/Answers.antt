-- `numbers_write::tuning::write_scale_dump_2` meets its contract: HIGH for the name, without room SPACE, with room the frame at the place.
-- Assumes nothing.
use mathlib.Core.List.{List}
use mathlib.Core.Path.{◌≡◌, refl, sym, ◌∙◌}
use Prim.Native.Nat.{ℕ}
use borrow.Author.Rules.{rules}
use lib.ListN.{length}
use Rattle.util.proofs.Laws.Splice.{part_put}
use Rattle.messages.specs.Fields.{device_byte}
use Rattle.messages.specs.Messages.{given, write_of}
use Rattle.writer.proofs.Laws.Answers.{bytes_all, no_room, in_room}
use Rattle.numbers_write.specs.Messages.{scale_message}
use Rattle.numbers_write.proofs.Scales.{scale_frame, forty_nine, scale_given, scale_refused}
use Rattle.numbers_write.proofs.tuning.write_scale_dump_2.Goals as goal

pub returns-then-not-is_seven : goal.returns-then-not-is_seven
returns-then-not-is_seven c =
    rw (scale_refused c.args.device c.args.bank c.args.program c.args.s c.args.text.now
    (sym c.is_seven.ensures ∙ c.if-not-is_seven.true))
    (refl, refl)

pub returns-then-not-has_room : goal.returns-then-not-has_room
returns-then-not-has_room c =
    let F : List ℕ = scale_frame (device_byte c.args.device) c.args.bank c.args.program c.args.s c.args.text.now in
    let l : length F ≡ 49 = forty_nine (device_byte c.args.device) c.args.bank c.args.program c.args.s c.args.text.now in
    let is_given : write_of (scale_message c.args.device c.args.bank c.args.program c.args.s c.args.text.now) ≡ given F = scale_given c.args.device c.args.bank c.args.program c.args.s c.args.text.now
    (sym c.is_seven.ensures ∙ c.if-not-is_seven.false)
    (bytes_all c.args.text.now (λ i. search rules)) in
    rw is_given
    (no_room F c.args.out.now c.args.place
    (rw l (sym c.has_room.ensures ∙ c.if-not-has_room.true)))

pub returns : goal.returns
returns c =
    let F : List ℕ = scale_frame (device_byte c.args.device) c.args.bank c.args.program c.args.s c.args.text.now in
    let l : length F ≡ 49 = forty_nine (device_byte c.args.device) c.args.bank c.args.program c.args.s c.args.text.now in
    let is_given : write_of (scale_message c.args.device c.args.bank c.args.program c.args.s c.args.text.now) ≡ given F = scale_given c.args.device c.args.bank c.args.program c.args.s c.args.text.now
    (sym c.is_seven.ensures ∙ c.if-not-is_seven.false)
    (bytes_all c.args.text.now (λ i. search rules)) in
    rw is_given
    (in_room F c.args.out.now _ c.args.place 49
    (rw l (sym c.has_room.ensures ∙ c.if-not-has_room.false))
    (sym l)
    (part_put c.args.out.now c.put_scale_dump_2.new.out F c.args.place
    (rw c.from-d.ensures at c.put_scale_dump_2.ensures)))
