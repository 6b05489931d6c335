-- What writing promises: the frame stands at the place and reads back, a refusal leaves the output as it was, and each number is given exactly.
-- Assumes nothing.
use mathlib.Core.Path.{◌≡◌, refl, sym, ap, ◌∙◌}
use mathlib.Core.Logic.{◌↔◌}
use mathlib.Core.Bool.{Bool, true, false}
use mathlib.Core.List.{List, ◌++◌}
use Prim.Native.Nat.{ℕ, ◌+◌, ◌-◌, ◌≤◌, ◌<◌}
use native.Mathlib.Omega.{arith}
use lib.Dec.{leb}
use lib.ListN.{length, take, drop}
use lib.Seq.{take_at, drop_at, drop-drop, length-take-le}
use borrow.Author.Tests.{leb-false}
use Rattle.util.specs.Pick.{pick}
use Rattle.util.specs.Splice.{splice}
use Rattle.util.proofs.Laws.Refusals.{number_some}
use Rattle.util.proofs.Laws.Splice.{length_splice}
use Rattle.util.specs.declared.refusal.Refusal.TheVariants.{Space}
use Rattle.messages.specs.Messages.{Message, Answer, refused, given, answer_number, write_of}
use Rattle.messages.proofs.Contents.{refused_exactly}
use Rattle.messages.proofs.Exact.{writes_settled, written_reads}
use Rattle.writer.proofs.Laws.Answers.{room_fits}
use Rattle.writer.proofs.Laws.NotSpace.{not_space}
use Rattle.std.specs.Prelude.{Ok, Err}
use Rattle.writer.specs.Write.{written_number, written_value, has_room, written_at, output_after, length_at}
use Rattle.writer.specs.Promises.{Placed, value_at, WritesPlaced, RefusesUnchanged, ContentsExactly, SpaceExactly, LengthTold}

-- ---- a splice: what stands before it, in it and after it

module _ (xs : List ℕ) (at : ℕ) (bs : List ℕ) (h : at + length bs ≤ length xs) where
  start : length (take at xs) ≡ at
  start = length-take-le at xs (omega arith)

  splice_before : take at (splice xs at bs) ≡ take at xs
  splice_before = take_at (take at xs) _ at start

  splice_from : drop at (splice xs at bs) ≡ bs ++ drop (length bs) (drop at xs)
  splice_from = drop_at (take at xs) _ at start

  splice_here : take (length bs) (drop at (splice xs at bs)) ≡ bs
  splice_here = ap (take (length bs)) splice_from ∙ take_at bs _ (length bs) refl

  splice_after : drop (at + length bs) (splice xs at bs) ≡ drop (at + length bs) xs
  splice_after =
      sym (drop-drop (length bs) at (splice xs at bs)) ∙ ap (drop (length bs)) splice_from ∙ drop_at bs _ (length bs) refl
      ∙ drop-drop (length bs) at xs

-- ---- the room

one_false : (a b : Bool) {C : Type 0} → pick a b false ≡ false → (a ≡ false → C) → (b ≡ false → C) → C
one_false true b e f g = g e
one_false false b e f g = f refl

room_lacks : (size place n : ℕ) → has_room size place n ≡ false → size < place + n
room_lacks size place n e =
    one_false (leb place size) (leb n (size - place)) e
    (λ t. let p = leb-false place size t in omega arith)
    (λ t. let p = leb-false n (size - place) t in omega arith)

not_true : (t : Bool) → (t ≡ true → ⊥) → t ≡ false
not_true true k = absurd (k refl)
not_true false k = refl

room_not : (size place n : ℕ) → size < place + n → has_room size place n ≡ false
room_not size place n h = not_true (has_room size place n) (λ t. let p = room_fits size place n t in omega arith)

-- ---- the answers

module _ (size place : ℕ) where
  space_by : (t : Bool) (n : ℕ) → written_number (pick t (Ok n) (Err Space)) ≡ 5 → t ≡ false
  space_by true n e = absurd (omega arith)
  space_by false n e = refl

  zero_by : (t : Bool) (n : ℕ) → written_number (pick t (Ok n) (Err Space)) ≡ 0 → t ≡ true
  zero_by true n e = refl
  zero_by false n e = absurd (omega arith)

  other_not : (t : Bool) (n k : ℕ) → (k ≡ 0 → ⊥) → (k ≡ 5 → ⊥) → written_number (pick t (Ok n) (Err Space)) ≡ k → ⊥
  other_not true n k p q e = p (sym e)
  other_not false n k p q e = q (sym e)

  -- the number is that of the contents, where these are refused
  contents_by : (a : Answer (List ℕ)) (k : ℕ) → (k ≡ 0 → ⊥) → (k ≡ 5 → ⊥) → (written_number (written_at a size place) ≡ k) ↔ (answer_number a ≡ k)
  contents_by (refused r) k p q = (λ e. e, λ e. e)
  contents_by (given bs) k p q = (
    λ e. absurd (other_not (has_room size place (length bs)) (length bs) k p q e),
    λ e. absurd (p (sym e)),
  )

  space_of : (a : Answer (List ℕ)) → (answer_number a ≡ 5 → ⊥) → written_number (written_at a size place) ≡ 5 → (bs : List ℕ) × ((a ≡ given bs) × (size < place + length bs))
  space_of (refused r) h e = absurd (h e)
  space_of (given bs) h e = (bs, (refl, room_lacks size place (length bs) (space_by (has_room size place (length bs)) (length bs) e)))

  written_of : (a : Answer (List ℕ)) → written_number (written_at a size place) ≡ 0
      → (bs : List ℕ) × ((a ≡ given bs) × ((has_room size place (length bs) ≡ true) × (length bs ≡ written_value (written_at a size place))))
  written_of (refused r) e = absurd (omega (arith, number_some r))
  written_of (given bs) e = let t = zero_by (has_room size place (length bs)) (length bs) e in (bs, (refl, (t, rw t)))

unchanged_by : (t : Bool) (n : ℕ) (x out : List ℕ) → (written_number (pick t (Ok n) (Err Space)) ≡ 0 → ⊥)
    → (written_value (pick t (Ok n) (Err Space)) ≡ 0) × (pick t x out ≡ out)
unchanged_by true n x out k = absurd (k refl)
unchanged_by false n x out k = (refl, refl)

unchanged : (a : Answer (List ℕ)) (out : List ℕ) (place : ℕ) → (written_number (written_at a (length out) place) ≡ 0 → ⊥)
    → (written_value (written_at a (length out) place) ≡ 0) × (output_after a out place ≡ out)
unchanged (refused r) out place k = (refl, refl)
unchanged (given bs) out place k = unchanged_by (has_room (length out) place (length bs)) (length bs) (splice out place bs) out k

length_told_number : (a : Answer (List ℕ)) → written_number (length_at a) ≡ answer_number a
length_told_number (refused r) = refl
length_told_number (given bs) = refl

zero_besides : (a : Answer (List ℕ)) → (written_number (length_at a) ≡ 0 → ⊥) → written_value (length_at a) ≡ 0
zero_besides (refused r) k = refl
zero_besides (given bs) k = absurd (k refl)

-- ---- the promises

placed : (m : Message) (out : List ℕ) (place n : ℕ) (bs : List ℕ) → write_of m ≡ given bs → has_room (length out) place (length bs) ≡ true → length bs ≡ n
    → Placed m out (output_after (write_of m) out place) place n
placed m out place n bs w t l =
    let h = room_fits (length out) place (length bs) t in
    let s = writes_settled m bs w in
    let o : output_after (write_of m) out place ≡ splice out place bs = rw (w, t) in
    let b : take n (drop place (output_after (write_of m) out place)) ≡ bs = rw (o, ← l) (splice_here out place bs h) in
    record {
      settled = s.0;
      frame = rw b s.1;
      back = λ k r. rw b (written_reads k m bs r w);
      front_kept = ap (take place) o ∙ splice_before out place bs h;
      rest_kept = rw (o, ← l) (splice_after out place bs h);
      same_length = ap length o ∙ length_splice out place bs h;
    }

pub writes_placed : WritesPlaced
writes_placed m out place e =
    let a = written_of (length out) place (write_of m) e in
    placed m out place (value_at m (length out) place) a.0 a.1.0 a.1.1.0 a.1.1.1

pub refuses_unchanged : RefusesUnchanged
refuses_unchanged m out place k = unchanged (write_of m) out place k

pub contents_exactly : ContentsExactly
contents_exactly m size place n p q =
    let c = contents_by size place (write_of m) n p q in
    let e = refused_exactly m in
    (λ h. sym e ∙ c.0 h, λ h. c.1 (e ∙ h))

pub space_exactly : SpaceExactly
space_exactly m size place = (
  space_of size place (write_of m) (λ e. not_space m.head m.fields (sym (refused_exactly m) ∙ e)),
  λ h. rw (h.1.0, room_not size place (length h.0) h.1.1),
)

pub length_told : LengthTold
length_told m =
    record {
      refused_as = length_told_number (write_of m) ∙ refused_exactly m;
      zero_besides = zero_besides (write_of m);
      as_written = λ size place e.
          let a = written_of size place (write_of m) e in
          ap (λ (x : Answer (List ℕ)). written_value (length_at x)) a.1.0 ∙ a.1.1.1;
    }
