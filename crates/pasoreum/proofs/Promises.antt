-- What the boundary promises. Assumes nothing.
use mathlib.Core.Path.{◌≡◌, refl, sym, ap, subst, ◌∙◌}
use mathlib.Core.Bool.{true, false}
use mathlib.Core.List.{List}
use Prim.Native.Nat.{ℕ, suc}
use native.Mathlib.Omega.{arith}
use lib.ListN.{length, take, drop}
use lib.Seq.{take_at}
use Rattle.util.specs.Splice.{overwritten}
use Rattle.util.proofs.Laws.Refusals.{number_some}
use Rattle.messages.specs.declared.file_reference.Kind.{Kind}
use Rattle.messages.specs.Messages.{Message, Answer, given, read_of}
use Rattle.messages.specs.MessageOf.{message_of}
use Rattle.messages.specs.Promises.{IsFrame}
use Rattle.messages.proofs.Exact.{read_exactly}
use Rattle.numbers_to_message.specs.Types.{Made}
use Rattle.numbers_to_message.specs.Table.{message_of_numbers}
use Rattle.read_places.specs.Found.{text_from}
use Rattle.reader.specs.declared.lent.Reading.{Reading}
use Rattle.reader.specs.Reading.{reading_number, ReadMet}
use Rattle.reader.proofs.Promises.{gives_exactly, gives_part}
use Rattle.numbers_of_message.specs.Numbers.{numbers_of}
use Rattle.numbers_of_message.proofs.Promises.{numbers_back}
use Rattle.numbers_of_message.proofs.Settled.{settled_representable}
use Rattle.writer.specs.Write.{written_at, written_number, written_value, output_after}
use Rattle.numbers_read.specs.Read.{reading_numbers}
use Rattle.numbers_read.proofs.Promises.{one_read_for}
use Rattle.numbers_write.specs.Write.{made_number, made_value, made_output}
use Rattle.std.specs.Prelude.{Some, None, Result, Ok, Err}
use Rattle.util.specs.declared.refusal.Refusal.{Refusal}
use Rattle.pasoreum.specs.Read.{Kept}
use Rattle.pasoreum.specs.Promises.{places_in, Says, text_said, message_said, NumbersRead, PartNamed, TextRead, WrittenAgain, OneRead}

-- what an answer says of a message that was read
abbrev Representable : Kind → List ℕ → List ℕ → List ℕ → List ℕ → Type 0
Representable k frame dat es a = (s : Says frame dat es a) × ((read_of k frame ≡ given (message_said s)) × IsFrame (message_said s) frame)

module _ (k : Kind) (frame dat dat' es es' answer : List ℕ) where
  representable : (r : Result Reading Refusal) → ReadMet r (read_of k frame) frame dat dat' es es' → 0 ≡ reading_number r → Representable k frame dat' es' (overwritten (reading_numbers r) answer)
  representable (Err r) h e = absurd (omega (arith, number_some r))
  representable (Ok a) h e =
      let d = a.device in
      let m = a.m in
      let x = message_of d m (text_from m (take a.len (drop a.from frame)) (take a.places dat')) (take a.places es') in
      let g = (gives_exactly k (Ok a) frame dat dat' es es' x h).0 refl in
      let n = take_at (numbers_of d m) (drop (suc (suc (suc (suc (length (numbers_of d m)))))) answer) (length (numbers_of d m)) refl in (
        record { device = d; m = m; numbers_say = ap message_of_numbers n ∙ numbers_back d m (settled_representable d m _ _ g.0.settled) },
        ((read_exactly k frame x).1 (g.0, g.1), g.1),
      )

pub numbers_read : NumbersRead
numbers_read k frame dat dat' es es' answer answer' f =
    subst (Representable k frame dat' es') (sym f.answer_is) (representable k frame dat dat' es es' answer f.reading f.met f.number_is)

module _ (k : Kind) (frame dat dat' es es' answer : List ℕ) (m : Message) (g : read_of k frame ≡ given m) where
  part_named : (r : Result Reading Refusal) → ReadMet r (read_of k frame) frame dat dat' es es' → 0 ≡ reading_number r → PartNamed frame (overwritten (reading_numbers r) answer) m
  part_named (Err r) h e = absurd (omega (arith, number_some r))
  part_named (Ok a) h e =
      let c = a.m in
      let x = message_of a.device c (text_from c (take a.len (drop a.from frame)) (take a.places dat')) (take a.places es') in
      let r = (gives_exactly k (Ok a) frame dat dat' es es' x h).0 refl in
      let i : given x ≡ given m = sym ((read_exactly k frame x).1 (r.0, r.1)) ∙ g in
      let p = gives_part k (Ok a) frame dat dat' es es' m h i in
      let q = p.0 in
      record { start_is = cc; length_is = cc; places_are = cc; stands = p.1 }

pub text_read : TextRead
text_read k frame dat dat' es es' answer answer' m f g =
    subst (λ (a : List ℕ). PartNamed frame a m) (sym f.answer_is) (part_named k frame dat dat' es es' answer m g f.reading f.met f.number_is)

pub written_again : WrittenAgain
written_again k frame dat dat' es es' answer answer' out place f =
    let t = numbers_read k frame dat dat' es es' answer answer' f in
    let s = t.0 in
    let text = text_said s in
    let entries = places_in es' answer' in
    let e = s.numbers_say in
    let w = t.1.1 in (
      s,
      (
        ap (λ (x : Made). made_number x text entries out place) e ∙ ap (λ (a : Answer (List ℕ)). written_number (written_at a (length out) place)) w,
        (
          ap (λ (x : Made). made_value x text entries out place) e ∙ ap (λ (a : Answer (List ℕ)). written_value (written_at a (length out) place)) w,
          ap (λ (x : Made). made_output x text entries out place) e ∙ ap (λ (a : Answer (List ℕ)). output_after a out place) w,
        ),
      ),
    )

-- ---- one answer

kept_once : {x n m : ℕ} {dat dat' dat'' es es' es'' answer answer' answer'' : List ℕ} → Kept x n dat dat' es es' answer answer' → Kept x m dat dat'' es es'' answer answer''
    → (n ≡ m) × (dat' ≡ dat'') × (es' ≡ es'') × (answer' ≡ answer'')
kept_once w v =
    (w.number_is ∙ sym v.number_is, w.data_is ∙ sym v.data_is, w.entries_are ∙ sym v.entries_are, w.answer_is ∙ sym v.answer_is)

pub one_read : OneRead
one_read None short n m frame dat dat' dat'' es es' es'' answer answer' answer'' w v = kept_once w v
one_read (Some k) true n m frame dat dat' dat'' es es' es'' answer answer' answer'' w v = kept_once w v
one_read (Some k) false n m frame dat dat' dat'' es es' es'' answer answer' answer'' w v =
    one_read_for k n m frame dat dat' dat'' es es' es'' answer answer' answer'' w v
