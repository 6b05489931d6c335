-- `read_tuning::is_key_dump` meets its contract.
-- Assumes nothing.
use lib.ListN.{length}
use Rattle.messages.specs.declared.head.Head.TheVariants as head
use Rattle.messages.specs.Layouts.{form}
use Rattle.read_places.proofs.Laws.Answers.{read_if}
use Rattle.read_tuning.proofs.Laws.Heads.{keys_size, keys_read}
use Rattle.read_tuning.proofs.is_key_dump.Goals as goal

pub returns : goal.returns
returns c =
    let f = c.args.f.now in
    rw c.len.ensures.size (read_if ((form head.KeyBasedTuningDump).read f) _ (length f) 401 (keys_read f c.len.ensures.seven) (keys_size f c.len.ensures.seven))
