-- A NAK or an ACK: its frame of six bytes, and what is read of it. Assumes nothing.
use mathlib.Core.Path.{◌≡◌, refl, sym, ap, subst, ◌∙◌}
use mathlib.Core.Option.{some}
use mathlib.Core.List.{List, [], ◌∷◌}
use Prim.Native.Nat.{ℕ, ◌<◌}
use native.Mathlib.Omega.{arith}
use lib.ListN.{length, get_or}
use borrow.Author.Tests.{le-leb}
use Rattle.util.specs.Groups.{Seven}
use Rattle.messages.specs.declared.head.Head.TheVariants as head
use Rattle.messages.specs.declared.file_reference.Kind.{Kind}
use Rattle.messages.specs.declared.system_exclusive.UniversalNonRealTimeMsg.TheVariants as msg
use Rattle.messages.specs.Fields.{device_of}
use Rattle.messages.specs.Messages.{Message, Answer, given, file_data, entries, holding, plain_answer, read_opened, read_of}
use Rattle.messages.specs.MessageOf.{message_of}
use Rattle.read_places.specs.Heads.{head_at}
use Rattle.read_places.proofs.Laws.Numbers.{value_get}
use Rattle.read_system_exclusive.proofs.Laws.{number_reads}
use Rattle.std.specs.Prelude.{Ok}
use Rattle.reader.specs.declared.lent.Reading.{Reading}
use Rattle.messages.specs.declared.system_exclusive.UniversalNonRealTimeMsg.{UniversalNonRealTimeMsg}
use Rattle.reader.specs.Reading.{text_and_places_of, data_after, entries_after, ReadMet}
use Rattle.reader.proofs.Laws.Opening.{opened_at, opening_at}
use Rattle.reader.proofs.Laws.Shape.{inside_is, read_of_frame}
use Rattle.util.specs.Splice.{overwritten}
use Rattle.numbers_to_message.specs.Values.{device_number_of}
use Rattle.numbers_of_message.specs.Numbers.{numbers_of}
use Rattle.numbers_read.specs.Plain.{ReadAny, six}

-- a message with nothing for lent space is held by any
free_holds : (m : Message) → file_data m ≡ [] → entries m ≡ [] → (x y : ℕ) → given m ≡ holding x y (given m)
free_holds m e f x y = rw (e, f, le-leb 0 x (omega arith), le-leb 0 y (omega arith))

-- six bytes by place
pub six_is : (l : List ℕ) → length l ≡ 6 → get_or l 0 0 ≡ 0xF0 → get_or l 1 0 ≡ 0x7E → get_or l 5 0 ≡ 0xF7 → l ≡ six (get_or l 2 0) (get_or l 3 0) (get_or l 4 0)
six_is [] n a b c = absurd (omega arith)
six_is (x ∷ []) n a b c = absurd (omega arith)
six_is (x ∷ y ∷ []) n a b c = absurd (omega arith)
six_is (x ∷ y ∷ z ∷ []) n a b c = absurd (omega arith)
six_is (x ∷ y ∷ z ∷ w ∷ []) n a b c = absurd (omega arith)
six_is (x ∷ y ∷ z ∷ w ∷ v ∷ []) n a b c = absurd (omega arith)
six_is (x ∷ y ∷ z ∷ w ∷ v ∷ u ∷ []) n a b c = cc
six_is (x ∷ y ∷ z ∷ w ∷ v ∷ u ∷ t ∷ r) n a b c = absurd (omega arith)

module _ (k : Kind) (d n : ℕ) (p : d < 128) (q : n < 128) where
  -- what stands between F0 and F7
  abbrev mid : ℕ → List ℕ
  mid a = 0x7E ∷ d ∷ a ∷ n ∷ []

  mid_seven : (a : ℕ) → a < 128 → Seven (mid a)
  mid_seven a r = (omega arith, (p, (r, (q, tt))))

  read_six : (a : ℕ) → a < 128 → read_opened (opened_at (head_at k a n) (mid a)) ≡ read_of k (six d a n)
  read_six a r =
      ap read_opened (sym (opening_at k (mid a) (mid_seven a r) (omega arith) refl))
      ∙ read_of_frame k (six d a n) (inside_is (six d a n) (omega arith) refl refl (mid_seven a r))

  -- the packet number is the one byte of the fields
  nak_read : given (message_of (device_of d) (msg.NAK n) [] []) ≡ read_of k (six d 0x7E n)
  nak_read =
      ap (plain_answer (device_of d) head.NAK) (sym (number_reads (n ∷ []) (q, tt) refl ∙ ap some (value_get (n ∷ []) 0)))
      ∙ read_six 0x7E (omega arith)

  ack_read : given (message_of (device_of d) (msg.ACK n) [] []) ≡ read_of k (six d 0x7F n)
  ack_read =
      ap (plain_answer (device_of d) head.ACK) (sym (number_reads (n ∷ []) (q, tt) refl ∙ ap some (value_get (n ∷ []) 0)))
      ∙ read_six 0x7F (omega arith)

  -- a message with no text that takes no places
  abbrev handshake : UniversalNonRealTimeMsg → Reading
  handshake m = record { device = device_of d; m = m; from = 0; len = 0; places = 0 }

  nak_met : (dat es : List ℕ) → ReadMet (Ok (handshake (msg.NAK n))) (read_of k (six d 0x7E n)) (six d 0x7E n) dat dat es es
  nak_met dat es =
      let e = free_holds (message_of (device_of d) (msg.NAK n) [] []) refl refl (length dat) (length es)
      ∙ ap (holding (length dat) (length es)) nak_read in
      record { says = e; numbers_are = ap text_and_places_of e; data_is = ap (λ (a : Answer Message). data_after a dat) e; entries_are = ap (λ (a : Answer Message). entries_after a es) e }

  ack_met : (dat es : List ℕ) → ReadMet (Ok (handshake (msg.ACK n))) (read_of k (six d 0x7F n)) (six d 0x7F n) dat dat es es
  ack_met dat es =
      let e = free_holds (message_of (device_of d) (msg.ACK n) [] []) refl refl (length dat) (length es)
      ∙ ap (holding (length dat) (length es)) ack_read in
      record { says = e; numbers_are = ap text_and_places_of e; data_is = ap (λ (a : Answer Message). data_after a dat) e; entries_are = ap (λ (a : Answer Message). entries_after a es) e }

  -- with its numbers in the answer
  pub nak_any : (a : ℕ) → a ≡ 0x7E → (answer answer' : List ℕ) → answer' ≡ overwritten (3 ∷ 0 ∷ 0 ∷ 0 ∷ 0x7E00 ∷ device_number_of (device_of d) ∷ n ∷ []) answer
      → ReadAny (read_of k (six d a n)) (six d a n) answer answer'
  unfolding numbers_of
  nak_any a e answer answer' x =
      subst (λ (b : ℕ). ReadAny (read_of k (six d b n)) (six d b n) answer answer') (sym e)
      (record { reading = Ok (handshake (msg.NAK n)); met = nak_met; number_is = refl; answer_is = x })

  pub ack_any : (a : ℕ) → a ≡ 0x7F → (answer answer' : List ℕ) → answer' ≡ overwritten (3 ∷ 0 ∷ 0 ∷ 0 ∷ 0x7F00 ∷ device_number_of (device_of d) ∷ n ∷ []) answer
      → ReadAny (read_of k (six d a n)) (six d a n) answer answer'
  unfolding numbers_of
  ack_any a e answer answer' x =
      subst (λ (b : ℕ). ReadAny (read_of k (six d b n)) (six d b n) answer answer') (sym e)
      (record { reading = Ok (handshake (msg.ACK n)); met = ack_met; number_is = refl; answer_is = x })
