-- `replay_vectors::cases::read` meets its contract: each part is where the one before it ends, behind its count.
-- Assumes nothing.
use Rattle.std.proofs.Common.{rules, arith, ◌≡◌, ◌∙◌, List, ℕ, ◌∷◌, ◌≤◌, ap, sym, length, drop, length-append, length-drop}
use Rattle.std.proofs.Math.Seq.{drop-drop}
use Rattle.replay_vectors.specs.Parts.{NumbersIn, TextIn}
use Rattle.replay_vectors.proofs.cases.read.Goals as goal

-- behind a byte, eight bytes and a byte are ten bytes
ten : (s r t u : List ℕ) (x y : ℕ) → s ≡ x ∷ r → t ≡ drop 8 r → t ≡ y ∷ u → u ≡ drop 10 s
ten s r t u x y p q w = let e : drop 1 (drop 8 r) ≡ u = ap (drop 1) (sym q ∙ w) in sym (ap (drop 10) p ∙ sym (drop-drop 1 8 r) ∙ e)

pub returns-clause-parts : goal.returns-clause-parts
returns-clause-parts c =
    let a : c.in_ok-count.rest.now ≡ drop 2 c.args.s.now = search rules in
    let b : c.in_ok-count-2.rest.now ≡ drop 2 c.in_ok-text.rest.now = search rules in
    let d : c.in_ok-count-3.rest.now ≡ drop 10 c.in_ok-entries.rest.now =
    ten _ _ _ _ _ _ c.in_ok-refusal.ensures.cases.0 c.in_ok-value.ensures.cases.1 c.in_ok-count-3.ensures.cases.0 in
    let e : c.in_ok-count-4.rest.now ≡ drop 4 c.in_ok-bytes.rest.now = search rules in
    record {
      behind_numbers = c.in_ok-numbers.rest.now;
      behind_text = c.in_ok-text.rest.now;
      behind_entries = c.in_ok-entries.rest.now;
      behind_out_numbers = c.in_ok-out_numbers.rest.now;
      behind_bytes = c.in_ok-bytes.rest.now;
      numbers_in = rw (← a) c.in_ok-numbers.ensures;
      text_in = c.in_ok-text.ensures;
      entries_in = rw (← b) c.in_ok-entries.ensures;
      out_numbers_in = rw (← d) c.in_ok-out_numbers.ensures;
      bytes_in = c.in_ok-bytes.ensures;
      out_entries_counted = omega (arith, c.in_ok-count-4.ensures.cases.2);
      out_entries_in = rw (← e) c.in_ok-out_entries.ensures;
    }

-- what is behind numbers, or behind a text, is no longer than what they stand in
numbers_shorter : {ns : List (List ℕ)} {s r : List ℕ} → NumbersIn ns s r → length r ≤ length s
numbers_shorter {ns} {s} {r} h = rw (h.rest_is, length-drop) (omega arith)

text_shorter : {t s r : List ℕ} → TextIn t s r → length r ≤ length s
text_shorter {t} {s} {r} h =
    let e = ap length h.text_is in omega (arith, e, length-append t r, length-drop 4 s)

pub returns-clause-shorter : goal.returns-clause-shorter
returns-clause-shorter c =
    let n1 = numbers_shorter c.in_ok-numbers.ensures in
    let t1 = text_shorter c.in_ok-text.ensures in
    let n2 = numbers_shorter c.in_ok-entries.ensures in
    let n3 = numbers_shorter c.in_ok-out_numbers.ensures in
    let t2 = text_shorter c.in_ok-bytes.ensures in
    let n4 = numbers_shorter c.in_ok-out_entries.ensures in
    let op = c.in_ok-op.ensures.cases.1 in
    let count = c.in_ok-count.ensures.cases.1 in
    let count-2 = c.in_ok-count-2.ensures.cases.2 in
    let refusal = c.in_ok-refusal.ensures.cases.1 in
    let value = c.in_ok-value.ensures.cases.2 in
    let count-3 = c.in_ok-count-3.ensures.cases.1 in
    let count-4 = c.in_ok-count-4.ensures.cases.2 in omega arith
