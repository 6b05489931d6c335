-- `desk_files::mend::with_sum` meets its contract: a checksum stored into a copy, or nothing.
-- Assumes nothing.
use Prim.Native.Nat.{◌-◌}
use native.Mathlib.Omega.{arith}
use lib.ListN.{length}
use Rattle.desk_files.proofs.Laws.Mend.{mended_long, mended_short, mended_none, mended_stored}
use Rattle.desk_files.proofs.mend.with_sum.Goals as goal

pub returns-then-room-n : goal.returns-then-room-n
returns-then-room-n c =
    let a = c.args in
    mended_none a.stretch.now a.room.now _ (mended_long a.stretch.now (length a.room.now) (omega arith))

pub returns-then-n-lt6 : goal.returns-then-n-lt6
returns-then-n-lt6 c =
    let a = c.args in
    mended_none a.stretch.now a.room.now _ (mended_short a.stretch.now (length a.room.now) (omega arith) (omega arith))

pub returns : goal.returns
returns c =
    let a = c.args in
    mended_stored a.stretch.now a.room.now _ (length a.stretch.now - 2 - 1) _ (omega arith) (omega arith) c.copy.ensures (omega arith) c.checksum.ensures
