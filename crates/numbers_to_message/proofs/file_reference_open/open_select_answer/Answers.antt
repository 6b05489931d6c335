-- `numbers_to_message::file_reference_open::open_select_answer` meets its contract: each form is a row, in order.
-- Assumes nothing.
use Rattle.numbers_to_message.proofs.Laws.{four_answers}
use Rattle.numbers_to_message.proofs.file_reference_open.open_select_answer.Goals as goal

pub returns : goal.returns
returns c =
    rw (c.or-3.ensures, c.or-2.ensures, c.or.ensures, c.open_list.ensures, c.open_offset.ensures, c.open_wav.ensures, c.open_both.ensures)
    (four_answers _ _ _ _ _ _ _ _)
