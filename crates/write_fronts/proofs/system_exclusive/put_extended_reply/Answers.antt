-- `write_fronts::system_exclusive::put_extended_reply` meets its contract: the bytes are those of the fields, each value held to its groups.
-- Assumes nothing.
use mathlib.Core.Path.{◌≡◌}
use Prim.Native.Nat.{◌/◌, ◌%◌}
use native.Mathlib.Omega.{arith}
use Rattle.util.specs.Groups.{held}
use Rattle.write_fronts.proofs.Laws.{code, byte, done, put}
use Rattle.write_fronts.proofs.system_exclusive.put_extended_reply.Goals as goal

pub returns : goal.returns
returns c =
    let f : c.min-f.result ≡ held 2 c.args.family = omega (arith, c.min-f.ensures) in
    let f0 : c.min-f.result % 128 ≡ held 2 c.args.family % 128 = omega arith in
    let f1 : c.min-f.result / 128 ≡ held 2 c.args.family / 128 % 128 = omega arith in
    let m : c.min-m.result ≡ held 2 c.args.member = omega (arith, c.min-m.ensures) in
    let m0 : c.min-m.result % 128 ≡ held 2 c.args.member % 128 = omega arith in
    let m1 : c.min-m.result / 128 ≡ held 2 c.args.member / 128 % 128 = omega arith in
    let i : c.min.result ≡ held 1 c.args.d % 128 = omega (arith, c.min.ensures) in
    let k : c.min-2.result ≡ held 1 c.args.a % 128 = omega (arith, c.min-2.ensures) in
    let l : c.min-3.result ≡ held 1 c.args.b % 128 = omega (arith, c.min-3.ensures) in
    let p : c.min-4.result ≡ held 1 c.args.v.0 % 128 = omega (arith, c.min-4.ensures) in
    let q : c.min-5.result ≡ held 1 c.args.v.1 % 128 = omega (arith, c.min-5.ensures) in
    let r : c.min-6.result ≡ held 1 c.args.v.2 % 128 = omega (arith, c.min-6.ensures) in
    let s : c.min-7.result ≡ held 1 c.args.v.3 % 128 = omega (arith, c.min-7.ensures) in
    put c.args.out.now
    (code 0x7E (byte i (code 0x06 (code 0x02 (code 0x00 (byte k (byte l (byte f0 (byte f1 (byte m0 (byte m1 (byte p (byte q (byte r (byte s done)))))))))))))))
    c.copy.ensures
