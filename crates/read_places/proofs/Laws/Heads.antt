-- The head that two bytes begin is the one that the table of layouts finds.
-- Assumes nothing.
use mathlib.Core.Path.{◌≡◌, refl, sym, ap, ◌∙◌}
use mathlib.Core.Bool.{Bool, true, false}
use mathlib.Core.Option.{some}
use Rattle.std.specs.Prelude.{Option, Some, None}
use mathlib.Core.List.{List, ◌∷◌}
use Prim.Native.Nat.{ℕ, ◌≤◌}
use native.Mathlib.Omega.{arith}
use lib.Dec.{eqb}
use lib.ListN.{length, drop}
use borrow.Author.Tests.{eqb-true, eq-eqb, ne_eqb}
use Rattle.util.specs.Pick.{pick}
use Rattle.util.specs.Options.{only_if}
use Rattle.messages.specs.declared.head.Head.{Head}
use Rattle.messages.specs.declared.head.Head.TheVariants as head
use Rattle.messages.specs.declared.file_reference.Kind.{Kind}
use Rattle.messages.specs.declared.file_reference.Kind.TheVariants.{Bank, WAV}
use Rattle.messages.specs.format.Core.{Got, bad, got}
use Rattle.messages.specs.format.Tags.{or_else, allow, find}
use Rattle.messages.specs.Layouts.{code, reads, all_heads}
use Rattle.read_places.specs.Heads.{head_05, head_06, head_07, head_08, head_09, head_0b, head_at}

-- the head, and what follows it
abbrev pub got_head : Option Head → List ℕ → Got Head
got_head (Some h) l = got h (drop (length (code h)) l)
got_head None l = bad

-- ---- tests of a byte

by_test : {C : Type 0} (a x : ℕ) (t : Bool) → eqb a x ≡ t → (a ≡ x → C) → ((a ≡ x → ⊥) → C) → C
by_test a x true e f g = f (eqb-true a x e)
by_test a x false e f g = g (λ q. let z = sym (eq-eqb a x q) ∙ e in let w : ◌≡◌ {A = ℕ} 0 1 = cc in omega arith)

pub by_byte : {C : Type 0} (a x : ℕ) → (a ≡ x → C) → ((a ≡ x → ⊥) → C) → C
by_byte a x f g = by_test a x (eqb a x) refl f g

pub eqb_sym : (a b : ℕ) → eqb a b ≡ eqb b a
eqb_sym a b = by_byte a b (λ e. rw (eq-eqb a b e, eq-eqb b a (sym e))) (λ n. rw (ne_eqb a b n, ne_eqb b a (λ e. n (sym e))))

-- ---- one head more

step : (x : Bool) (t : Head) (s l : List ℕ) (g : Got Head) (p : Option Head) → s ≡ drop (length (code t)) l → g ≡ got_head p l
    → or_else t (allow (only_if x (some s)) true) g ≡ got_head (pick x (Some t) p) l
step true t s l g p d e = ap (got t) d
step false t s l g p d e = e

one : (c b : ℕ) (t : Head) (s l : List ℕ) (g : Got Head) (p : Option Head) → s ≡ drop (length (code t)) l → g ≡ got_head p l
    → or_else t (allow (only_if (eqb c b) (some s)) true) g ≡ got_head (pick (eqb b c) (Some t) p) l
one c b t s l g p d e = rw (eqb_sym c b) (step (eqb b c) t s l g p d e)

module _ (k : Kind) (b : ℕ) (r : List ℕ) where
  abbrev found : ℕ → Got Head
  found a = find (reads k) code all_heads (a ∷ b ∷ r)

  find_05 : found 0x05 ≡ got_head (head_05 b) (0x05 ∷ b ∷ r)
  find_05 =
      one 1 b head.LoopPointTransmission r _ _ _ refl (one 2 b head.LoopPointsRequest r _ _ _ refl (one 3 b head.SampleName r _ _ _ refl
      (one 4 b head.SampleNameRequest r _ _ _ refl (one 5 b head.ExtendedHeader r _ _ _ refl (one 6 b head.ExtendedLoopPointTransmission r _ _ _ refl
      (one 7 b head.ExtendedLoopPointsRequest r _ _ None refl refl))))))

  find_06 : found 0x06 ≡ got_head (head_06 b) (0x06 ∷ b ∷ r)
  find_06 = one 1 b head.IdentityRequest r _ _ _ refl (one 2 b head.IdentityReply r _ _ None refl refl)

  find_07 : found 0x07 ≡ got_head (head_07 b) (0x07 ∷ b ∷ r)
  find_07 =
      one 1 b head.FileDumpHeader r _ _ _ refl (one 2 b head.FileDumpPacket r _ _ _ refl
      (one 3 b head.FileDumpRequest r _ _ None refl refl))

  find_08 : found 0x08 ≡ got_head (head_08 b) (0x08 ∷ b ∷ r)
  find_08 =
      one 0 b head.TuningBulkDumpRequest r _ _ _ refl (one 1 b head.KeyBasedTuningDump r _ _ _ refl (one 3 b head.BankTuningBulkDumpRequest r _ _ _ refl
      (one 4 b head.BankKeyBasedTuningDump r _ _ _ refl (one 5 b head.ScaleTuningDump1Byte r _ _ _ refl (one 6 b head.ScaleTuningDump2Byte r _ _ _ refl
      (one 7 b head.TuningNoteChange r _ _ _ refl (one 8 b head.ScaleTuning1Byte r _ _ _ refl
      (one 9 b head.ScaleTuning2Byte r _ _ None refl refl))))))))

  find_09 : found 0x09 ≡ got_head (head_09 b) (0x09 ∷ b ∷ r)
  find_09 =
      one 1 b head.GeneralMidi1 r _ _ _ refl (one 2 b head.GeneralMidiOff r _ _ _ refl
      (one 3 b head.GeneralMidi2 r _ _ None refl refl))

-- a head of the other kind is passed over
pass : (x : Bool) (t : Head) (s : List ℕ) (g : Got Head) → or_else t (allow (only_if x (some s)) false) g ≡ g
pass true t s g = refl
pass false t s g = refl

find_0b : (k : Kind) (b : ℕ) (r : List ℕ) → found k b r 0x0B ≡ got_head (head_0b k b) (0x0B ∷ b ∷ r)
find_0b Bank b r =
    one 1 b head.FileReferenceOpen r _ _ _ refl (one 2 b head.SelectSoundFile r _ _ _ refl (pass (eqb 2 b) head.SelectWAV r _
    ∙ one 3 b head.FileReferenceOpenSelect r _ _ _ refl (one 4 b head.FileReferenceClose r _ _ None refl refl)))
find_0b WAV b r =
    one 1 b head.FileReferenceOpen r _ _ _ refl (pass (eqb 2 b) head.SelectSoundFile r _ ∙ one 2 b head.SelectWAV r _ _ _ refl
    (one 3 b head.FileReferenceOpenSelect r _ _ _ refl (one 4 b head.FileReferenceClose r _ _ None refl refl)))

pub head_find : (k : Kind) (a b : ℕ) (r : List ℕ) → find (reads k) code all_heads (a ∷ b ∷ r) ≡ got_head (head_at k a b) (a ∷ b ∷ r)
head_find k a b r =
    by_byte a 0x01 (λ e. rw e) λ n1. by_byte a 0x02 (λ e. rw e) λ n2. by_byte a 0x03 (λ e. rw e) λ n3.
    by_byte a 0x05 (λ e. rw e (find_05 k b r)) λ n5. by_byte a 0x06 (λ e. rw e (find_06 k b r)) λ n6.
    by_byte a 0x07 (λ e. rw e (find_07 k b r)) λ n7. by_byte a 0x08 (λ e. rw e (find_08 k b r)) λ n8.
    by_byte a 0x09 (λ e. rw e (find_09 k b r)) λ n9. by_byte a 0x0B (λ e. rw e (find_0b k b r)) λ nb.
    by_byte a 0x7B (λ e. rw e) λ m1. by_byte a 0x7C (λ e. rw e) λ m2. by_byte a 0x7D (λ e. rw e) λ m3.
    by_byte a 0x7E (λ e. rw e) λ m4. by_byte a 0x7F (λ e. rw e) λ m5.
    rw (
      eqb_sym 0x01 a,
      eqb_sym 0x02 a,
      eqb_sym 0x03 a,
      eqb_sym 0x05 a,
      eqb_sym 0x06 a,
      eqb_sym 0x07 a,
      eqb_sym 0x08 a,
      eqb_sym 0x09 a,
      eqb_sym 0x0B a,
      eqb_sym 0x7B a,
      eqb_sym 0x7C a,
      eqb_sym 0x7D a,
      eqb_sym 0x7E a,
      eqb_sym 0x7F a,
      ne_eqb a _ n1,
      ne_eqb a _ n2,
      ne_eqb a _ n3,
      ne_eqb a _ n5,
      ne_eqb a _ n6,
      ne_eqb a _ n7,
      ne_eqb a _ n8,
      ne_eqb a _ n9,
      ne_eqb a _ nb,
      ne_eqb a _ m1,
      ne_eqb a _ m2,
      ne_eqb a _ m3,
      ne_eqb a _ m4,
      ne_eqb a _ m5,
    )

-- ---- a head has one byte or two

pub code_short : (h : Head) → length (code h) ≤ 2
code_short = elim [ head.SampleDumpHeader ↦ omega arith | head.SampleDumpPacket ↦ omega arith | head.SampleDumpRequest ↦ omega arith | head.LoopPointTransmission ↦ omega arith | head.LoopPointsRequest ↦ omega arith | head.SampleName ↦ omega arith | head.SampleNameRequest ↦ omega arith | head.ExtendedHeader ↦ omega arith | head.ExtendedLoopPointTransmission ↦ omega arith | head.ExtendedLoopPointsRequest ↦ omega arith | head.IdentityRequest ↦ omega arith | head.IdentityReply ↦ omega arith | head.FileDumpHeader ↦ omega arith | head.FileDumpPacket ↦ omega arith | head.FileDumpRequest ↦ omega arith | head.TuningBulkDumpRequest ↦ omega arith | head.KeyBasedTuningDump ↦ omega arith | head.BankTuningBulkDumpRequest ↦ omega arith | head.BankKeyBasedTuningDump ↦ omega arith | head.ScaleTuningDump1Byte ↦ omega arith | head.ScaleTuningDump2Byte ↦ omega arith | head.TuningNoteChange ↦ omega arith | head.ScaleTuning1Byte ↦ omega arith | head.ScaleTuning2Byte ↦ omega arith | head.GeneralMidi1 ↦ omega arith | head.GeneralMidiOff ↦ omega arith | head.GeneralMidi2 ↦ omega arith | head.FileReferenceOpen ↦ omega arith | head.SelectSoundFile ↦ omega arith | head.SelectWAV ↦ omega arith | head.FileReferenceOpenSelect ↦ omega arith | head.FileReferenceClose ↦ omega arith | head.EOF ↦ omega arith | head.Wait ↦ omega arith | head.Cancel ↦ omega arith | head.NAK ↦ omega arith | head.ACK ↦ omega arith ]
