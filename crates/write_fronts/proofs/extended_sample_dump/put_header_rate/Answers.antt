-- `write_fronts::extended_sample_dump::put_header_rate` meets its contract: the bytes are those of the fields, each value held to its groups.
-- Assumes nothing.
use mathlib.Core.Path.{◌≡◌}
use Prim.Native.Nat.{◌/◌, ◌%◌}
use native.Mathlib.Omega.{arith}
use Rattle.util.specs.Groups.{held}
use Rattle.write_fronts.specs.Fronts.{clamp}
use Rattle.write_fronts.proofs.Laws.{code, byte, done, put}
use Rattle.write_fronts.proofs.extended_sample_dump.put_header_rate.Goals as goal

pub returns : goal.returns
returns c =
    let n : c.min-n.result ≡ held 2 c.args.sample = omega (arith, c.min-n.ensures) in
    let n0 : c.min-n.result % 128 ≡ held 2 c.args.sample % 128 = omega arith in
    let n1 : c.min-n.result / 128 ≡ held 2 c.args.sample / 128 % 128 = omega arith in
    let w : c.min-w.result ≡ held 4 c.args.whole = omega (arith, c.min-w.ensures) in
    let w0 : c.min-w.result % 128 ≡ held 4 c.args.whole % 128 = omega arith in
    let w1 : c.min-w.result / 128 % 128 ≡ held 4 c.args.whole / 128 % 128 = omega arith in
    let w2 : c.min-w.result / 128 / 128 % 128 ≡ held 4 c.args.whole / 128 / 128 % 128 = omega arith in
    let w3 : c.min-w.result / 128 / 128 / 128 ≡ held 4 c.args.whole / 128 / 128 / 128 % 128 = omega arith in
    let r : c.min-r.result ≡ held 4 c.args.fraction = omega (arith, c.min-r.ensures) in
    let r0 : c.min-r.result % 128 ≡ held 4 c.args.fraction % 128 = omega arith in
    let r1 : c.min-r.result / 128 % 128 ≡ held 4 c.args.fraction / 128 % 128 = omega arith in
    let r2 : c.min-r.result / 128 / 128 % 128 ≡ held 4 c.args.fraction / 128 / 128 % 128 = omega arith in
    let r3 : c.min-r.result / 128 / 128 / 128 ≡ held 4 c.args.fraction / 128 / 128 / 128 % 128 = omega arith in
    let i : c.min.result ≡ held 1 c.args.d % 128 = omega (arith, c.min.ensures) in
    let h : c.clamp.result ≡ held 1 (clamp 8 28 c.args.format) % 128 = omega (arith, c.clamp.ensures) in
    put c.args.out.now
    (code 0x7E (byte i (code 0x05 (code 0x05 (byte n0 (byte n1 (byte h (byte w0 (byte w1 (byte w2 (byte w3 (byte r0 (byte r1 (byte r2 (byte r3 done)))))))))))))))
    c.copy.ensures
