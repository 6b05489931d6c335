-- No frame has more than 1,292 bytes: an open with select (0B 03) with a URL of 260 bytes and 127 maps has so many.
-- Assumes nothing.
use mathlib.Core.Path.{◌≡◌, refl, sym, subst, ◌∙◌}
use mathlib.Core.Bool.{Bool, true, false}
use mathlib.Core.List.{List, [], ◌∷◌}
use Prim.Native.Nat.{ℕ, zero, suc, ◌+◌, ◌*◌, ◌≤◌}
use native.Mathlib.Omega.{arith}
use lib.ListN.{length, length-append}
use borrow.Author.Tests.{leb-true}
use Rattle.util.specs.Limits.{most_name, most_frame}
use Rattle.util.specs.Packing.{pack}
use Rattle.util.specs.Checksum.{checksum}
use Rattle.messages.specs.declared.head.Head.{Head}
use Rattle.messages.specs.declared.head.Head.TheVariants as head
use Rattle.messages.specs.declared.file_reference.FileReferenceType.{FileReferenceType}
use Rattle.messages.specs.declared.file_reference.FileReferenceType.TheVariants.{DLS, SF2, WAV}
use Rattle.messages.specs.declared.sample_dump.LoopType.{LoopType}
use Rattle.messages.specs.declared.sample_dump.LoopType.TheVariants as loop
use Rattle.messages.specs.declared.sample_dump.ExtendedLoopType.{ExtendedLoopType}
use Rattle.messages.specs.declared.sample_dump.ExtendedLoopType.TheVariants as ext
use Rattle.messages.specs.declared.system_exclusive.ManufacturerID.{ManufacturerID}
use Rattle.messages.specs.declared.system_exclusive.ManufacturerID.TheVariants.{OneByte, Extended}
use Rattle.messages.specs.Fields.{u7, s7, s14, tuning}
use Rattle.messages.specs.Structures.{AfterMaker, key_tuning, loop_code, extended_loop_code, reply, revision, identity_reply}
use Rattle.messages.specs.Maps.{BankSelect, WAVSelect, AnySelect, map_list, map_offset, only_wav_map, wav_map_offset, of_bank, of_wav, bank_select, wav_select, select_for, reference_size, maps_size}
use Rattle.messages.specs.Layouts.{Fields, form, summed, code}
use Rattle.messages.specs.Messages.{Message, given, with_sum, framed}
use Rattle.messages.proofs.Formats.{all_size}
use Rattle.messages.proofs.Exact.{settled_parts, write_settled}
use Rattle.walk.specs.Promises.{FrameShort}

-- ---- lists

pack_size : (k : ℕ) (l : List ℕ) → length (pack k l) ≤ 2 * length l
pack_size zero [] = omega arith
pack_size zero (x ∷ l) = omega (arith, pack_size 6 l)
pack_size (suc k) [] = omega arith
pack_size (suc k) (x ∷ l) = omega (arith, pack_size k l)

-- ---- bytes of one length

loop_size : (t : LoopType) → length (loop_code t) ≡ 1
loop_size = elim [ loop.Forward ↦ refl | loop.BiDirectional ↦ refl | loop.Off ↦ refl ]

extended_size : (t : ExtendedLoopType) → length (extended_loop_code t) ≡ 1
extended_size =
    elim [ ext.Forward ↦ refl | ext.BiDirectional ↦ refl | ext.ForwardRelease ↦ refl | ext.BiDirectionalRelease ↦ refl | ext.Backward ↦ refl | ext.BackwardBiDirectional ↦ refl | ext.BackwardRelease ↦ refl | ext.BackwardBiDirectionalRelease ↦ refl | ext.BackwardOneShot ↦ refl | ext.OneShot ↦ refl ]

reply_size : (i : ManufacturerID) (x : AfterMaker) → length (identity_reply.bytes (reply i x)) ≤ 11
reply_size (OneByte b) x = omega arith
reply_size (Extended a b) x = omega arith

-- ---- maps

bank_size : (x : BankSelect) → bank_select.settled x → length (bank_select.bytes x) ≤ 1017
bank_size (map_list l) h = omega (arith, maps_size l)
bank_size (map_offset o) h = omega arith

wav_size : (x : WAVSelect) → length (wav_select.bytes x) ≤ 16
wav_size (only_wav_map m) = omega arith
wav_size (wav_map_offset m o) = omega arith

select_size : (t : FileReferenceType) (x : AnySelect) → (select_for t).settled x → length ((select_for t).bytes x) ≤ 1017
select_size DLS (of_bank x) h = bank_size x h
select_size DLS (of_wav x) h = absurd h
select_size SF2 (of_bank x) h = bank_size x h
select_size SF2 (of_wav x) h = absurd h
select_size WAV (of_bank x) h = absurd h
select_size WAV (of_wav x) h = omega (arith, wav_size x)

-- ---- the fields of each head, with the checksum

abbrev sum_size : Bool → ℕ
sum_size true = 1
sum_size false = 0

-- with the head's bytes at most 1,288
abbrev Short : (h : Head) → Fields h → Type 0
Short h f = length (code h) + length ((form h).bytes f) + sum_size (summed h) ≤ 1288

short : (h : Head) (f : Fields h) → (form h).settled f → Short h f
short head.SampleDumpHeader f h = simp length-append (omega (arith, loop_size f.loop_type))
short head.SampleDumpPacket f h = simp length-append (omega (arith, all_size u7 1 (λ a. refl) f.samples))
short head.SampleDumpRequest f h = omega arith
short head.LoopPointTransmission f h = simp length-append (omega (arith, loop_size f.loop_type))
short head.LoopPointsRequest f h = omega arith
short head.SampleName f h = simp length-append (omega (arith, all_size u7 1 (λ a. refl) f.name))
short head.SampleNameRequest f h = omega arith
short head.ExtendedHeader f h = simp length-append (omega (arith, extended_size f.loop_type))
short head.ExtendedLoopPointTransmission f h = simp length-append (omega (arith, extended_size f.loop_type))
short head.ExtendedLoopPointsRequest f h = omega arith
short head.IdentityRequest f h = omega arith
short head.IdentityReply f h = omega (arith, reply_size f.id (f.family, (f.family_member, revision f.software_revision)))
short head.FileDumpHeader f h = omega (arith, leb-true (length f.name) most_name h.1.1.1.1)
short head.FileDumpPacket f h = omega (arith, pack_size 0 f.file_data)
short head.FileDumpRequest f h = omega (arith, leb-true (length f.name) most_name h.1.1.1)
short head.TuningBulkDumpRequest f h = omega arith
short head.KeyBasedTuningDump f h = simp length-append (omega (arith, all_size u7 1 (λ a. refl) f.name, all_size tuning 3 (λ a. refl) f.tunings))
short head.BankTuningBulkDumpRequest f h = omega arith
short head.BankKeyBasedTuningDump f h = simp length-append (omega (arith, all_size u7 1 (λ a. refl) f.name, all_size tuning 3 (λ a. refl) f.tunings))
short head.ScaleTuningDump1Byte f h = simp length-append (omega (arith, all_size u7 1 (λ a. refl) f.name, all_size s7 1 (λ a. refl) f.scale))
short head.ScaleTuningDump2Byte f h = simp length-append (omega (arith, all_size u7 1 (λ a. refl) f.name, all_size s14 2 (λ a. refl) f.scale))
short head.TuningNoteChange f h = simp length-append (omega (arith, all_size key_tuning 4 (λ a. refl) f.changes))
short head.ScaleTuning1Byte f h = simp length-append (omega (arith, all_size s7 1 (λ a. refl) f.scale))
short head.ScaleTuning2Byte f h = simp length-append (omega (arith, all_size s14 2 (λ a. refl) f.scale))
short head.GeneralMidi1 f h = omega arith
short head.GeneralMidiOff f h = omega arith
short head.GeneralMidi2 f h = omega arith
short head.FileReferenceOpen f h = simp length-append (omega (arith, reference_size f.type))
short head.SelectSoundFile f h = omega (arith, bank_size f.map h.1)
short head.SelectWAV f h = omega (arith, wav_size f.map)
short head.FileReferenceOpenSelect f h = simp length-append (omega (arith, reference_size f.type, select_size f.type f.map h.1.1))
short head.FileReferenceClose f h = omega arith
short head.EOF f h = omega arith
short head.Wait f h = omega arith
short head.Cancel f h = omega arith
short head.NAK f h = omega arith
short head.ACK f h = omega arith

-- ---- a frame

with_sum_size : (t : Bool) (b : List ℕ) → length (with_sum t b) ≡ length b + sum_size t
with_sum_size true b = length-append b (checksum b ∷ [])
with_sum_size false b = omega arith

-- F0, 7E and the device before the head, F7 after the fields
framed_short : (m : Message) → (form m.head).settled m.fields → length (framed m) ≤ most_frame
framed_short m h =
    simp (length-append, with_sum_size) (omega (arith, short m.head m.fields h))

given_same : {a b : List ℕ} → given a ≡ given b → a ≡ b
given_same e = cc

pub frame_short : FrameShort
frame_short k bs f =
    let s = f.settled.settled in
    let e = given_same (sym f.frame ∙ write_settled f.message s) in
    subst (λ (l : List ℕ). length l ≤ most_frame) (sym e) (framed_short f.message (settled_parts f.message s).1)
