-- What the writer answers: from its test of the contents and of the room to what the message's frame says.
-- Assumes nothing.
use mathlib.Core.Path.{◌≡◌, refl, ap, ◌∙◌}
use mathlib.Core.Bool.{Bool, true, false}
use mathlib.Core.Option.{Option, none, some}
use mathlib.Core.List.{List, [], ◌∷◌}
use Prim.Native.Nat.{ℕ, suc, ◌+◌, ◌-◌, ◌<◌, ◌≤◌}
use native.Mathlib.Omega.{arith}
use lib.ListN.{length, get_or}
use borrow.Author.Tests.{leb-true}
use Rattle.util.specs.Pick.{pick}
use Rattle.util.specs.Packing.{Bytes}
use Rattle.util.specs.Splice.{splice}
use Rattle.util.specs.declared.refusal.Refusal.{Refusal}
use Rattle.util.specs.declared.refusal.Refusal.TheVariants.{Space}
use Rattle.messages.specs.declared.system_exclusive.DeviceID.{DeviceID}
use Rattle.messages.specs.declared.system_exclusive.UniversalNonRealTimeMsg.{UniversalNonRealTimeMsg}
use Rattle.messages.specs.Messages.{refused, given, write_of}
use Rattle.messages.specs.Contents.{contents}
use Rattle.messages.specs.MessageOf.{head_of, fields_of, message_of}
use Rattle.messages.proofs.Exact.{write_admitted}
use Rattle.messages.proofs.Contents.{refusal_is}
use Rattle.std.specs.Prelude.{Ok, Err, leb}
use Rattle.writer.specs.Write.{has_room, written_at, output_after, told}
use Rattle.writer.specs.Frames.{Lent, lent, frame_of}
use Rattle.writer.proofs.Laws.Whole.{ChannelsFit, frame_parts}

-- ---- what the test of the contents tells

pub told_none : (o : Option Refusal) → told o ≡ Ok tt → o ≡ none
told_none none e = refl
told_none (some r) e = cc

pub told_some : (o : Option Refusal) (r : Refusal) → told o ≡ Err r → o ≡ some r
told_some none r e = cc
told_some (some s) r e = let z : s ≡ r = cc in ap some z

module _ (m : UniversalNonRealTimeMsg) (text entries : List ℕ) where
  pub lent_told : (o : Option Refusal) → told o ≡ Ok tt → Ok (record { m = m; text = text; entries = entries }) ≡ lent m text entries o
  lent_told o e = rw (told_none o e)

  pub lent_refused : (o : Option Refusal) {r : Refusal} → told o ≡ Err r → Err r ≡ lent m text entries o
  lent_refused o {r} e = rw (told_some o r e)

  pub lent_none : (o : Option Refusal) {a : Lent} → Ok a ≡ lent m text entries o → (o ≡ none) × (a ≡ record { m = m; text = text; entries = entries })
  lent_none none e = (refl, cc)
  lent_none (some r) e = cc

  pub lent_some : (o : Option Refusal) {r : Refusal} → Err r ≡ lent m text entries o → o ≡ some r
  lent_some none e = cc
  lent_some (some s) {r} e = let z : s ≡ r = cc in ap some z

-- a slice of bytes
pub bytes_all : (l : List ℕ) → ((i : ℕ) → get_or l i 0 < 256) → Bytes l
bytes_all [] h = tt
bytes_all (x ∷ l) h = (h 0, bytes_all l (λ i. h (suc i)))

-- ---- what is written

pub write_refused : (d : DeviceID) (m : UniversalNonRealTimeMsg) (text entries : List ℕ) (r : Refusal) → contents (head_of m) (fields_of m text entries) ≡ some r
    → write_of (message_of d m text entries) ≡ refused r
unfolding write_of
write_refused d m text entries r e = rw (refusal_is (message_of d m text entries) ∙ e)

pub write_frame : (d : DeviceID) (m : UniversalNonRealTimeMsg) (text entries : List ℕ) → contents (head_of m) (fields_of m text entries) ≡ none → Bytes text → ChannelsFit m
    → write_of (message_of d m text entries) ≡ given (frame_of d m text entries)
unfolding frame_of
write_frame d m text entries e y h =
    write_admitted (message_of d m text entries) (refusal_is (message_of d m text entries) ∙ e) ∙ ap given (frame_parts d m text entries e y h)

-- ---- the room

-- where there is none, the answer is SPACE and the output stays
pub no_room : (bs out : List ℕ) (place : ℕ) → has_room (length out) place (length bs) ≡ false
    → (Err Space ≡ written_at (given bs) (length out) place) × (out ≡ output_after (given bs) out place)
no_room bs out place e = (rw e, rw e)

both_picked : (a b : Bool) → pick a b false ≡ true → (a ≡ true) × (b ≡ true)
both_picked true b e = (refl, e)
both_picked false b e = absurd (let z : ◌≡◌ {A = ℕ} 0 1 = cc in omega arith)

pub room_fits : (size place n : ℕ) → has_room size place n ≡ true → place + n ≤ size
room_fits size place n e =
    let z = both_picked (leb place size) (leb n (size - place)) e in
    let p = leb-true place size z.0 in
    let q = leb-true n (size - place) z.1 in
    omega arith

-- where there is room, the answer is the length and the frame stands at the place
pub in_room : (bs out x : List ℕ) (place n : ℕ) → has_room (length out) place (length bs) ≡ true → n ≡ length bs → x ≡ splice out place bs
    → (Ok n ≡ written_at (given bs) (length out) place) × (x ≡ output_after (given bs) out place)
in_room bs out x place n e l s = (rw e (ap Ok l), rw e s)
