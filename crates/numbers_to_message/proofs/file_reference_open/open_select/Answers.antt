-- `numbers_to_message::file_reference_open::open_select` meets its contract: an answer has the message of its rows.
-- Assumes nothing.
use Rattle.numbers_to_message.proofs.Laws.{message_is}
use Rattle.numbers_to_message.proofs.file_reference_open.open_select.Goals as goal

pub returns : goal.returns
returns c = message_is _ _ _ _ c.open_select_answer.ensures c.message_of.ensures
