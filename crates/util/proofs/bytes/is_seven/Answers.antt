-- `util::bytes::is_seven` meets its contract: the joined bits of all bytes are below 128 just where all bytes are.
-- Assumes nothing.
use Rattle.std.proofs.Common.{◌≡◌, rules, fold, bit_or}
use Rattle.util.proofs.Laws.Bytes.{seven_fold}
use Rattle.util.proofs.bytes.is_seven.Goals as goal

pub returns : goal.returns
returns c = let e : c.fold.result ≡ fold bit_or 0 c.args.s.now = search rules in rw e (seven_fold 0 c.args.s.now)
