-- `numbers_to_message::file_reference::wav_map` meets its contract: each field is the value of its number.
-- Assumes nothing.
use mathlib.Core.Path.{◌≡◌}
use mir.Syntax.{w16}
use mir.Val.{to_z, of_z}
use borrow.Author.Rules.{rules}
use Rattle.numbers_to_message.proofs.file_reference.wav_map.Goals as goal

pub returns : goal.returns
returns c =
    let z : to_z w16 (of_z w16 c.i16_at.result) ≡ c.i16_at.result = search rules in
    rw (z, c.u16_at.ensures, c.u8_at.ensures, c.u8_at-2.ensures, c.u8_at-3.ensures, c.u8_at-4.ensures, c.i16_at.ensures, c.u8_at-5.ensures)
