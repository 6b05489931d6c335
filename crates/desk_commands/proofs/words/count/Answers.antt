-- `desk_commands::words::count` meets its contract: the library's count of zeros is that of the definition.
-- Assumes nothing.
use Rattle.std.proofs.Common.{rules}
use Rattle.desk_commands.proofs.Laws.Words.{count_is}
use Rattle.desk_commands.proofs.words.count.Goals as goal

pub returns : goal.returns
returns c = search (rules, count_is)
