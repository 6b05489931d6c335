-- `numbers_to_message::file_reference::select_answer` meets its contract: each form is a row, in order.
-- Assumes nothing.
use Rattle.numbers_to_message.proofs.Laws.{four_answers}
use Rattle.numbers_to_message.proofs.file_reference.select_answer.Goals as goal

pub returns : goal.returns
returns c =
    rw (c.or-3.ensures, c.or-2.ensures, c.or.ensures, c.select_list.ensures, c.select_offset.ensures, c.select_wav.ensures, c.select_both.ensures)
    (four_answers _ _ _ _ _ _ _ _)
