-- `numbers_to_message::number::file_type_of` meets its contract: the type is that of the number's four bytes.
-- Assumes nothing.
use Rattle.numbers_to_message.proofs.Files.{file_type_named}
use Rattle.numbers_to_message.proofs.number.file_type_of.Goals as goal

pub returns : goal.returns
returns c = rw (c.from.ensures, c.to_be_bytes.ensures) (file_type_named c.args.x c.in_ok-u32_of.field-0 c.in_ok-u32_of.ensures)
