-- `numbers_of_message::file_reference::put_message` meets its contract, message by message.
-- Assumes nothing.
use Rattle.numbers_of_message.proofs.file_reference.put_message.Goals as goal

pub returns-in-Open : goal.returns-in-Open
returns-in-Open c = rw (c.in-Open.is, ← c.reference_number-t.ensures) c.put.ensures

pub returns-in-SelectContents : goal.returns-in-SelectContents
returns-in-SelectContents c = rw c.in-SelectContents.is c.put_select.ensures

pub returns-in-OpenSelectContents : goal.returns-in-OpenSelectContents
returns-in-OpenSelectContents c = rw c.in-OpenSelectContents.is c.put_open_select.ensures

pub returns-in-Close : goal.returns-in-Close
returns-in-Close c = rw c.in-Close.is c.put-in-Close.ensures
