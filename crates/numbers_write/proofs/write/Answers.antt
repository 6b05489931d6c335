-- `numbers_write::write` meets its contract: each head code by its own way.
-- Assumes nothing.
use mathlib.Core.Path.{◌≡◌, refl}
use lib.ListN.{get_or}
use borrow.Author.Rules.{rules}
use Rattle.numbers_write.proofs.write.Goals as goal

pub write_handshake-requires : goal.write_handshake-requires
write_handshake-requires c =
    let e : get_or c.args.numbers.now 0 0 ≡ 0x7E00 = search rules in
    (rw e refl, rw e refl)

pub write_handshake-requires-in-32512 : goal.write_handshake-requires-in-32512
write_handshake-requires-in-32512 c =
    let e : get_or c.args.numbers.now 0 0 ≡ 0x7F00 = search rules in
    (rw e refl, rw e refl)
