-- Laws of keys: a number above all of them.
-- Assumes nothing.
use mathlib.Core.Path.{◌≡◌}
use Prim.Native.Nat.{ℕ, ◌-◌, ◌≤◌, ◌<◌}
use native.Mathlib.Omega.{arith}
use borrow.Author.Tests.{ne_eqb, le-ltb}
use Rattle.std.specs.Prelude.{None}
use Rattle.util.specs.Limits.{keys}
use Rattle.desk_text.specs.Keys.{key_at, within_keys}

pub above_keys : (n : ℕ) → 128 < n → None ≡ key_at n
unfolding key_at within_keys
above_keys n h =
    let e : keys ≤ n - 1 = omega arith in
    rw (ne_eqb n 0 (omega arith), le-ltb (n - 1) keys e)
