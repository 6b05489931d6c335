-- `util::checksum::checksum` meets its contract: the checksum is a fold of XOR.
-- Assumes nothing.
use Rattle.std.proofs.Common.{◌≡◌, ◌∙◌, rules, fold, bit_xor}
use Rattle.util.proofs.Laws.Checksum.{xor_fold}
use Rattle.util.proofs.checksum.checksum.Goals as goal

pub returns : goal.returns
returns c = let e : c.fold.result ≡ fold bit_xor 0 c.args.s.now = search rules in e ∙ xor_fold 0 c.args.s.now
