-- The refusals of a frame read, rows 6 to 9: each is given exactly as its row says.
-- Assumes nothing.
use mathlib.Core.Path.{◌≡◌, refl, sym, subst, ap, ◌∙◌}
use mathlib.Core.Bool.{Bool, true, false}
use mathlib.Core.Logic.{◌↔◌, ◌⊎◌, inl, inr, ⊎_elim}
use mathlib.Core.Option.{Option, none, some}
use mathlib.Core.List.{List, [], ◌∷◌, ◌++◌}
use Prim.Native.Nat.{ℕ, ◌%◌, ◌<◌, ◌≤◌}
use native.Mathlib.Omega.{arith}
use lib.Dec.{eqb}
use lib.ListN.{length, length-append}
use Rattle.util.specs.Limits.{all_call}
use Rattle.util.specs.Groups.{Seven}
use Rattle.util.specs.Checksum.{checksum}
use Rattle.util.proofs.Laws.Options.{none_some}
use Rattle.util.proofs.Laws.Refusals.{number_some, number_only}
use Rattle.messages.specs.Types.{Refusal, Head, Kind, DeviceID}
use Rattle.util.specs.declared.refusal.Refusal.TheVariants as R
use Rattle.messages.specs.declared.head.Head.TheVariants.{SampleDumpHeader, SampleDumpPacket, SampleDumpRequest, LoopPointTransmission, LoopPointsRequest, SampleName, SampleNameRequest, ExtendedHeader, ExtendedLoopPointTransmission, ExtendedLoopPointsRequest, IdentityRequest, IdentityReply, FileDumpHeader, FileDumpPacket, FileDumpRequest, TuningBulkDumpRequest, KeyBasedTuningDump, BankTuningBulkDumpRequest, BankKeyBasedTuningDump, ScaleTuningDump1Byte, ScaleTuningDump2Byte, TuningNoteChange, ScaleTuning1Byte, ScaleTuning2Byte, GeneralMidi1, GeneralMidiOff, GeneralMidi2, FileReferenceOpen, SelectSoundFile, SelectWAV, FileReferenceOpenSelect, FileReferenceClose, EOF, Wait, Cancel, NAK, ACK}
use Rattle.messages.specs.declared.file_reference.Kind.TheVariants.{Bank, WAV}
use Rattle.util.specs.Refusals.{number}
use Rattle.messages.specs.format.{Got, bad, got, bad_got}
use Rattle.messages.specs.Fields as field
use Rattle.messages.specs.Layouts.{Fields, form, code, summed, reads}
use Rattle.messages.specs.Messages.{Message, Answer, refused, given, answer_number, opening, unsnoc, inside, Opened, read_opening, plain_answer, sum_answer, read_summed, read_fields, read_opened, read_inside, read_of}
use Rattle.messages.specs.Promises.{Shaped, Headed, ReadZero, ShapeExactly, NoHead, HeadExactly}
use Rattle.messages.proofs.Exact.{inside_back, inside_shaped, opening_back, opening_only, read_settled, reads_back}

-- ---- an answer by its number

pub refused_by : {A : Type 0} (a : Answer A) (r : Refusal) → answer_number a ≡ number r → a ≡ refused r
refused_by (refused s) r e = ap refused (number_only s r e)
refused_by (given x) r e = absurd (omega (arith, number_some r))

pub numbered_row : {A P : Type 0} (a : Answer A) (r : Refusal) → (a ≡ refused r) ↔ P → (answer_number a ≡ number r) ↔ P
numbered_row a r w = (λ n. w.0 (refused_by a r n), λ p. ap answer_number (w.1 p))

-- the message of an answer whose number is 0
pub given_by : (a : Answer Message) → answer_number a ≡ 0 → (m : Message) × (a ≡ given m)
given_by (refused r) e = absurd (omega (arith, number_some r))
given_by (given m) e = (m, refl)

pub read_zero : ReadZero
read_zero k bs = (
  λ n. let g = given_by (read_of k bs) n in
      let s = read_settled k bs g.0 g.1 in
      record { message = g.0; settled = s.0; frame = s.1 },
  λ f. ap answer_number (reads_back k f.message bs f.settled f.frame),
)

-- ---- which refusals a reading comes to

pub same_number : {r s : Refusal} → ◌≡◌ {A = Answer Message} (refused r) (refused s) → number r ≡ number s
same_number e = ap answer_number e

-- a message, FIELD or SUM
pub data Late : Answer Message → Type 0 where
  message : {m : Message} → Late (given m)
  field_refused : Late (refused R.Field)
  sum_refused : Late (refused R.Sum)

late_plain : (d : DeviceID) (h : Head) (o : Option (Fields h)) → Late (plain_answer d h o)
late_plain d h none = field_refused
late_plain d h (some f) = message

late_sum : (d : DeviceID) (h : Head) (t : Bool) (o : Option (Fields h)) → Late (sum_answer d h t o)
late_sum d h t none = field_refused
late_sum d h true (some f) = message
late_sum d h false (some f) = sum_refused

late_summed : (d : DeviceID) (h : Head) (g : Got ℕ) → Late (read_summed d h g)
late_summed d h bad = field_refused
late_summed d h (got c r) = late_sum d h (eqb c (checksum (opening d h ++ r))) ((form h).read r)

pub late_fields : (d : DeviceID) (h : Head) (s : Bool) (r : List ℕ) → Late (read_fields d h s r)
late_fields d h false r = late_plain d h ((form h).read r)
late_fields d h true r = late_summed d h (unsnoc r)

late_refused : (r : Refusal) → Late (refused r) → (number r ≡ 8) ⊎ (number r ≡ 9)
late_refused r field_refused = inl refl
late_refused r sum_refused = inr refl

-- after a head was found, a refusal is 8 or 9
pub late_got : (o : Opened) (r : List ℕ) (x : Refusal) → read_opened (got o r) ≡ refused x → (number x ≡ 8) ⊎ (number x ≡ 9)
late_got o r x e = late_refused x (subst Late e (late_fields o.0 o.1 (summed o.1) r))

-- ---- 6 SHAPE

abbrev pub inside_record : (bs mid : List ℕ) → inside bs ≡ some mid → Shaped bs
inside_record bs mid e = let i = inside_shaped bs mid e in record { mid = mid; is = i.0; low = i.1; long = i.2 }

pub shaped_inside : (bs : List ℕ) (s : Shaped bs) → inside bs ≡ some s.mid
shaped_inside bs s =
    let n : 6 ≤ length (0xF0 ∷ (s.mid ++ (0xF7 ∷ []))) = subst (λ (l : List ℕ). 6 ≤ length l) (sym s.is) s.long in
    ap inside (sym s.is) ∙ inside_back s.mid s.low (omega (arith, length-append s.mid (0xF7 ∷ [])))

opened_not_shape : (g : Got Opened) → read_opened g ≡ refused R.Shape → ⊥
opened_not_shape bad e = omega (arith, same_number e)
opened_not_shape (got o r) e = ⊎_elim (λ n. omega arith) (λ n. omega arith) (late_got o r R.Shape e)

shape_by : (k : Kind) (bs : List ℕ) (o : Option (List ℕ)) → inside bs ≡ o → (read_inside k o ≡ refused R.Shape) ↔ (Shaped bs → ⊥)
shape_by k bs none e = (λ h s. none_some (sym e ∙ shaped_inside bs s), λ h. refl)
shape_by k bs (some mid) e = (λ h s. opened_not_shape (read_opening k mid) h, λ h. absurd (h (inside_record bs mid e)))

shape_refused : (k : Kind) (bs : List ℕ) → (read_of k bs ≡ refused R.Shape) ↔ (Shaped bs → ⊥)
unfolding read_of
shape_refused k bs = shape_by k bs (inside bs) refl

pub shape_exactly : ShapeExactly
shape_exactly k bs = numbered_row (read_of k bs) R.Shape (shape_refused k bs)

-- ---- 7 HEAD

-- a head of the table is one that the kind reads, or stands there once more for the other kind
same_code : (k : Kind) (h : Head) → (g : Head) × ((reads k g ≡ true) × (code g ≡ code h))
same_code Bank SelectWAV = (SelectSoundFile, (refl, refl))
same_code WAV SelectSoundFile = (SelectWAV, (refl, refl))
same_code Bank SelectSoundFile = (SelectSoundFile, (refl, refl))
same_code WAV SelectWAV = (SelectWAV, (refl, refl))
same_code k SampleDumpHeader = (SampleDumpHeader, (refl, refl))
same_code k SampleDumpPacket = (SampleDumpPacket, (refl, refl))
same_code k SampleDumpRequest = (SampleDumpRequest, (refl, refl))
same_code k LoopPointTransmission = (LoopPointTransmission, (refl, refl))
same_code k LoopPointsRequest = (LoopPointsRequest, (refl, refl))
same_code k SampleName = (SampleName, (refl, refl))
same_code k SampleNameRequest = (SampleNameRequest, (refl, refl))
same_code k ExtendedHeader = (ExtendedHeader, (refl, refl))
same_code k ExtendedLoopPointTransmission = (ExtendedLoopPointTransmission, (refl, refl))
same_code k ExtendedLoopPointsRequest = (ExtendedLoopPointsRequest, (refl, refl))
same_code k IdentityRequest = (IdentityRequest, (refl, refl))
same_code k IdentityReply = (IdentityReply, (refl, refl))
same_code k FileDumpHeader = (FileDumpHeader, (refl, refl))
same_code k FileDumpPacket = (FileDumpPacket, (refl, refl))
same_code k FileDumpRequest = (FileDumpRequest, (refl, refl))
same_code k TuningBulkDumpRequest = (TuningBulkDumpRequest, (refl, refl))
same_code k KeyBasedTuningDump = (KeyBasedTuningDump, (refl, refl))
same_code k BankTuningBulkDumpRequest = (BankTuningBulkDumpRequest, (refl, refl))
same_code k BankKeyBasedTuningDump = (BankKeyBasedTuningDump, (refl, refl))
same_code k ScaleTuningDump1Byte = (ScaleTuningDump1Byte, (refl, refl))
same_code k ScaleTuningDump2Byte = (ScaleTuningDump2Byte, (refl, refl))
same_code k TuningNoteChange = (TuningNoteChange, (refl, refl))
same_code k ScaleTuning1Byte = (ScaleTuning1Byte, (refl, refl))
same_code k ScaleTuning2Byte = (ScaleTuning2Byte, (refl, refl))
same_code k GeneralMidi1 = (GeneralMidi1, (refl, refl))
same_code k GeneralMidiOff = (GeneralMidiOff, (refl, refl))
same_code k GeneralMidi2 = (GeneralMidi2, (refl, refl))
same_code k FileReferenceOpen = (FileReferenceOpen, (refl, refl))
same_code k FileReferenceOpenSelect = (FileReferenceOpenSelect, (refl, refl))
same_code k FileReferenceClose = (FileReferenceClose, (refl, refl))
same_code k EOF = (EOF, (refl, refl))
same_code k Wait = (Wait, (refl, refl))
same_code k Cancel = (Cancel, (refl, refl))
same_code k NAK = (NAK, (refl, refl))
same_code k ACK = (ACK, (refl, refl))

-- any byte below 128 is some device's
device_some : (d : ℕ) → d < 128 → (v : DeviceID) × ((field.device).settled v × ((field.device).bytes v ≡ d ∷ []))
device_some d h =
    let v = field.device_of d in
    let e : field.device_byte v ≡ d = field.device_same d (eqb d all_call) refl in
    let m : d % 128 ≡ d = omega arith in
    (v, ((rw e h, ap field.device_of e), rw (e, m)))

pub headed_found : (k : Kind) (mid : List ℕ) → Seven mid → (d : Headed mid) → read_opening k mid ≡ bad → ⊥
headed_found k mid s d b =
    let l : d.to < 128 = (subst Seven (sym d.is) s).1.0 in
    let z = same_code k d.head in
    let v = device_some d.to l in
    let i : opening v.0 z.0 ++ d.rest ≡ mid =
    ap (λ (x : List ℕ). (0x7E ∷ x ++ code z.0) ++ d.rest) v.1.1
    ∙ ap (λ (c : List ℕ). 0x7E ∷ d.to ∷ (c ++ d.rest)) z.1.1
    ∙ d.is in
    bad_got (sym b ∙ ap (read_opening k) (sym i) ∙ opening_back k v.0 z.0 d.rest v.1.0 z.1.0)

pub opened_headed : (k : Kind) (mid : List ℕ) (o : Opened) (r : List ℕ) → read_opening k mid ≡ got o r → Headed mid
opened_headed k mid o r e = record { to = field.device_byte o.0 % 128; head = o.1; rest = r; is = (opening_only k mid o r e).1 }

head_by : (k : Kind) (mid : List ℕ) → Seven mid → (g : Got Opened) → read_opening k mid ≡ g → (read_opened g ≡ refused R.Head) ↔ (Headed mid → ⊥)
head_by k mid s bad e = (λ h d. headed_found k mid s d e, λ h. refl)
head_by k mid s (got o r) e = (
  λ h d. ⊎_elim (λ n. omega arith) (λ n. omega arith) (late_got o r R.Head h),
  λ h. absurd (h (opened_headed k mid o r e)),
)

same_mid : (bs mid : List ℕ) (s : Shaped bs) → inside bs ≡ some mid → s.mid ≡ mid
same_mid bs mid s e = let z : some s.mid ≡ some mid = sym (shaped_inside bs s) ∙ e in cc

head_at : (k : Kind) (bs : List ℕ) (o : Option (List ℕ)) → inside bs ≡ o → (read_inside k o ≡ refused R.Head) ↔ NoHead bs
head_at k bs none e = (λ h. absurd (omega (arith, same_number h)), λ x. absurd (none_some (sym e ∙ shaped_inside bs x.shaped)))
head_at k bs (some mid) e =
    let s = inside_record bs mid e in (
      λ h. record { shaped = s; not_headed = (head_by k mid s.low (read_opening k mid) refl).0 h },
      λ x. (head_by k mid s.low (read_opening k mid) refl).1 (λ d. x.not_headed (subst Headed (sym (same_mid bs mid x.shaped e)) d)),
    )

head_refused : (k : Kind) (bs : List ℕ) → (read_of k bs ≡ refused R.Head) ↔ NoHead bs
unfolding read_of
head_refused k bs = head_at k bs (inside bs) refl

pub head_exactly : HeadExactly
head_exactly k bs = numbered_row (read_of k bs) R.Head (head_refused k bs)
