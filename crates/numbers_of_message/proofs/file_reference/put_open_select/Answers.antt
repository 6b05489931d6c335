-- `numbers_of_message::file_reference::put_open_select` meets its contract: the numbers of the map come after the context and the type.
-- Assumes nothing.
use Rattle.numbers_of_message.proofs.file_reference.put_open_select.Goals as goal

pub returns : goal.returns
returns c = rw (← c.select_map-v.ensures, ← c.reference_number-t.ensures) c.put_both.ensures
