-- The answers of the cycle of calls {read_inside, read_outside}. Assumes nothing.
use Rattle.std.proofs.Common.{◌≡◌, sym, ◌∙◌, ℕ, ◌+◌, arith, drop}
use Rattle.std.specs.List.{prefix_len}
use Rattle.walk.specs.Steps.{is_low, not_f0}
use Rattle.walk.proofs.Laws.Runs.{run_within, f0_at}
use Rattle.walk.proofs.Laws.Reached.{outside, past, unheaded, high_end, high_on, cut, other, further, ended, found}
use Rattle.walk.proofs.+read_inside_read_outside.Goals as goal
use Rattle.walk.proofs.+read_inside_read_outside.Goals.{read_inside-After-next_high-e}

-- ---- inside

pub read_inside-returns-then-stream-next : goal.read_inside-returns-then-stream-next
read_inside-returns-then-stream-next t c =
    let s = c.args.stream.now.now in
    let i = c.args.start in
    let h = c.if-stream-next.true in
    ended s i (i + 1) (omega arith) h (cut s i (i + 1) c.requires.0 (high_end s (i + 1) h) h)

pub read_inside-returns-then-b : goal.read_inside-returns-then-b
read_inside-returns-then-b t c =
    let s = c.args.stream.now.now in
    let i = c.args.start in
    further s i (i + 1) _ _ (omega arith) (unheaded s i c.if-stream-next.false (λ z. omega (arith, c.byte_at-b.ensures, c.if-b.true))) c.read_inside.ensures

pub read_inside-returns-then-b-ne126 : goal.read_inside-returns-then-b-ne126
read_inside-returns-then-b-ne126 t c =
    let s = c.args.stream.now.now in
    let i = c.args.start in
    let h = c.if-stream-next.false in
    let b = c.byte_at-b.ensures in
    let f = past s i (i + 1) (unheaded s i h (λ z. c.if-b-ne126.true (b ∙ z))) h (λ z. c.if-b.false (b ∙ z)) in
    further s i (i + 1 + 1) _ _ (omega arith) f c.read_outside.ensures

-- where a stretch ends whose second byte is below 128
stretch_ends : (t : ℕ) (c : read_inside-After-next_high-e t) → c.next_high-e.result ≡ (c.args.start + 1) + prefix_len is_low (drop (c.args.start + 1) c.args.stream.now.now)
stretch_ends t c =
    high_on c.args.stream.now.now (c.args.start + 1) c.byte_at-b.result c.next_high-e.result c.if-stream-next.false c.byte_at-b.ensures (omega (arith, c.if-b-ne126.false)) c.next_high-e.ensures

pub read_inside-returns-then-byte_at : goal.read_inside-returns-then-byte_at
read_inside-returns-then-byte_at t c =
    let s = c.args.stream.now.now in
    let i = c.args.start in
    let e = c.next_high-e.result in
    let q = stretch_ends t (goal.at.read_inside-returns-then-byte_at t c).After-next_high-e in
    found s i e c.requires.1 (record {
      first = c.requires.2;
      second = sym c.byte_at-b.ensures ∙ c.if-b-ne126.false;
      ends = q;
      fits = c.if-e-stream.true;
      last = sym c.byte_at.ensures ∙ c.if-byte_at.true;
    })

pub read_inside-returns-then-byte_at-2 : goal.read_inside-returns-then-byte_at-2
read_inside-returns-then-byte_at-2 t c =
    let s = c.args.stream.now.now in
    let i = c.args.start in
    let e = c.next_high-e.result in
    let q = stretch_ends t (goal.at.read_inside-returns-then-byte_at-2 t c).After-next_high-e in
    further s i e _ _ (omega (arith, q)) (other s i e c.requires.0 q (λ z. omega (arith, c.byte_at-then-e-stream.ensures, c.if-byte_at-2.true))) c.read_inside-then-byte_at-2.ensures

pub read_inside-overflow_mul-result-else-e-stream : goal.read_inside-overflow_mul-result-else-e-stream
read_inside-overflow_mul-result-else-e-stream t c = omega (arith, run_within is_low c.args.stream.now.now (c.args.start + 1 + 1) (omega arith))

pub read_inside-returns-else-byte_at-2 : goal.read_inside-returns-else-byte_at-2
read_inside-returns-else-byte_at-2 t c =
    let s = c.args.stream.now.now in
    let i = c.args.start in
    let e = c.next_high-e.result in
    let q = stretch_ends t (goal.at.read_inside-returns-else-byte_at-2 t c).After-next_high-e in
    let f = other s i e c.requires.0 q (λ z. c.if-byte_at.false (c.byte_at.ensures ∙ z)) in
    further s i (e + 1) _ _ (omega (arith, q)) (past s i e f c.if-e-stream.true (λ z. c.if-byte_at-2.false (c.byte_at-then-e-stream.ensures ∙ z))) c.read_outside-then-e-stream.ensures

pub read_inside-returns-else-e-stream : goal.read_inside-returns-else-e-stream
read_inside-returns-else-e-stream t c =
    let s = c.args.stream.now.now in
    let i = c.args.start in
    let e = c.next_high-e.result in
    let q = stretch_ends t (goal.at.read_inside-returns-else-e-stream t c).After-next_high-e in
    ended s i e (omega (arith, q)) c.if-e-stream.false (cut s i e c.requires.0 q c.if-e-stream.false)

-- ---- outside

pub read_outside-read_inside-requires-then-i-stream : goal.read_outside-read_inside-requires-then-i-stream
read_outside-read_inside-requires-then-i-stream t c =
    let call = c.next_f0-i in
    (omega arith, (c.if-i-stream.true, c.requires.1, f0_at c.args.stream.now.now c.args.at call.result call.ensures c.if-i-stream.true))

pub read_outside-overflow_mul-result : goal.read_outside-overflow_mul-result
read_outside-overflow_mul-result t c = omega (arith, run_within not_f0 c.args.stream.now.now c.args.at (omega arith))

pub read_outside-returns-then-i-stream : goal.read_outside-returns-then-i-stream
read_outside-returns-then-i-stream t c =
    let s = c.args.stream.now.now in
    let call = c.next_f0-i in
    further s c.args.at call.result _ _ (omega arith) (outside s c.args.at call.result call.ensures) c.read_inside-then-i-stream.ensures

pub read_outside-returns-else-i-stream : goal.read_outside-returns-else-i-stream
read_outside-returns-else-i-stream t c =
    let s = c.args.stream.now.now in
    let call = c.next_f0-i in
    ended s c.args.at call.result (omega arith) c.if-i-stream.false (outside s c.args.at call.result call.ensures)
