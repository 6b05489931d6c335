-- No refusal of contents is SPACE.
-- Assumes nothing.
use mathlib.Core.Path.{◌≡◌}
use mathlib.Core.Bool.{Bool, true, false}
use mathlib.Core.Option.{Option, none, some}
use mathlib.Core.List.{List}
use Prim.Native.Nat.{ℕ}
use native.Mathlib.Omega.{arith}
use lib.Dec.{leb}
use lib.ListN.{length}
use Rattle.util.specs.Limits.{most_data, most_name, most_changes}
use Rattle.util.specs.Fields.{fits_u28}
use Rattle.util.specs.Groups.{seven}
use Rattle.util.specs.Options.{unless}
use Rattle.util.specs.Pick.{pick}
use Rattle.util.specs.Refusals.{number}
use Rattle.util.specs.declared.refusal.Refusal.{Refusal}
use Rattle.util.specs.declared.refusal.Refusal.TheVariants.{High, Long, Value}
use Rattle.messages.specs.declared.head.Head.{Head}
use Rattle.messages.specs.declared.head.Head.TheVariants as head
use Rattle.messages.specs.declared.file_reference.FileReferenceType.{FileReferenceType}
use Rattle.messages.specs.declared.file_reference.FileReferenceType.TheVariants.{DLS, SF2, WAV}
use Rattle.messages.specs.declared.system_exclusive.ManufacturerID.{ManufacturerID}
use Rattle.messages.specs.declared.system_exclusive.ManufacturerID.TheVariants.{OneByte, Extended}
use Rattle.messages.specs.Refusals.{rank, least}
use Rattle.messages.specs.format.Texts.{is_text}
use Rattle.messages.specs.Fields.{high, type_bytes}
use Rattle.messages.specs.Maps.{AnySelect, of_bank, of_wav}
use Rattle.messages.specs.Layouts.{Fields}
use Rattle.messages.specs.Messages.{refusal_number}
use Rattle.messages.specs.Contents.{high_url, longer, too_large, zero_maker, other_kind, contents}

abbrev pub NotSpace : Option Refusal → Type 0
NotSpace o = refusal_number o ≡ 5 → ⊥

unless_not_space : (r : Refusal) → (number r ≡ 5 → ⊥) → (t : Bool) → NotSpace (unless r t)
unless_not_space r h true = λ e. omega arith
unless_not_space r h false = h

pick_not_space : (t : Bool) (a b : Refusal) → (number a ≡ 5 → ⊥) → (number b ≡ 5 → ⊥) → NotSpace (pick t (some a) (some b))
pick_not_space true a b h k = h
pick_not_space false a b h k = k

least_not_space : (a b : Option Refusal) → NotSpace a → NotSpace b → NotSpace (least a b)
least_not_space none b h k = k
least_not_space (some a) none h k = h
least_not_space (some a) (some b) h k = pick_not_space (leb (rank a) (rank b)) a b h k

high_not_space : (l : List ℕ) → NotSpace (high l)
high_not_space l = unless_not_space High (λ e. omega arith) (seven l)

url_not_space : (l : List ℕ) → NotSpace (high_url l)
url_not_space l = unless_not_space High (λ e. omega arith) (is_text l)

longer_not_space : {A : Type 0} (n : ℕ) (l : List A) → NotSpace (longer n l)
longer_not_space n l = unless_not_space Long (λ e. omega arith) (leb (length l) n)

value_not_space : (v : ℕ) → NotSpace (too_large v)
value_not_space v = unless_not_space Value (λ e. omega arith) (fits_u28 v)

maker_not_space : (m : ManufacturerID) → NotSpace (zero_maker m)
maker_not_space (OneByte b) = unless_not_space Value (λ e. omega arith) (leb 1 b)
maker_not_space (Extended a b) = λ e. omega arith

kind_not_space : (t : FileReferenceType) (x : AnySelect) → NotSpace (other_kind t x)
kind_not_space DLS (of_bank x) = λ e. omega arith
kind_not_space DLS (of_wav x) = λ e. omega arith
kind_not_space SF2 (of_bank x) = λ e. omega arith
kind_not_space SF2 (of_wav x) = λ e. omega arith
kind_not_space WAV (of_bank x) = λ e. omega arith
kind_not_space WAV (of_wav x) = λ e. omega arith

name_not_space : (l : List ℕ) → NotSpace (least (longer most_name l) (high l))
name_not_space l = least_not_space (longer most_name l) (high l) (longer_not_space most_name l) (high_not_space l)

pub not_space : (h : Head) (f : Fields h) → NotSpace (contents h f)
not_space head.SampleName f = high_not_space f.name
not_space head.ExtendedHeader f = least_not_space (too_large f.rate_whole) (too_large f.rate_fraction) (value_not_space f.rate_whole) (value_not_space f.rate_fraction)
not_space head.IdentityReply f = maker_not_space f.id
not_space head.FileDumpHeader f =
    least_not_space (high (type_bytes f.type)) (least (too_large f.length) (least (longer most_name f.name) (high f.name))) (high_not_space (type_bytes f.type))
    (least_not_space (too_large f.length) (least (longer most_name f.name) (high f.name)) (value_not_space f.length) (name_not_space f.name))
not_space head.FileDumpPacket f = longer_not_space most_data f.file_data
not_space head.FileDumpRequest f =
    least_not_space (high (type_bytes f.type)) (least (longer most_name f.name) (high f.name)) (high_not_space (type_bytes f.type)) (name_not_space f.name)
not_space head.KeyBasedTuningDump f = high_not_space f.name
not_space head.BankKeyBasedTuningDump f = high_not_space f.name
not_space head.ScaleTuningDump1Byte f = high_not_space f.name
not_space head.ScaleTuningDump2Byte f = high_not_space f.name
not_space head.TuningNoteChange f = longer_not_space most_changes f.changes
not_space head.FileReferenceOpen f = url_not_space f.url
not_space head.FileReferenceOpenSelect f = least_not_space (high_url f.url) (other_kind f.type f.map) (url_not_space f.url) (kind_not_space f.type f.map)
not_space head.SampleDumpHeader f = λ e. omega arith
not_space head.SampleDumpPacket f = λ e. omega arith
not_space head.SampleDumpRequest f = λ e. omega arith
not_space head.LoopPointTransmission f = λ e. omega arith
not_space head.LoopPointsRequest f = λ e. omega arith
not_space head.SampleNameRequest f = λ e. omega arith
not_space head.ExtendedLoopPointTransmission f = λ e. omega arith
not_space head.ExtendedLoopPointsRequest f = λ e. omega arith
not_space head.IdentityRequest f = λ e. omega arith
not_space head.TuningBulkDumpRequest f = λ e. omega arith
not_space head.BankTuningBulkDumpRequest f = λ e. omega arith
not_space head.ScaleTuning1Byte f = λ e. omega arith
not_space head.ScaleTuning2Byte f = λ e. omega arith
not_space head.GeneralMidi1 f = λ e. omega arith
not_space head.GeneralMidiOff f = λ e. omega arith
not_space head.GeneralMidi2 f = λ e. omega arith
not_space head.SelectSoundFile f = λ e. omega arith
not_space head.SelectWAV f = λ e. omega arith
not_space head.FileReferenceClose f = λ e. omega arith
not_space head.EOF f = λ e. omega arith
not_space head.Wait f = λ e. omega arith
not_space head.Cancel f = λ e. omega arith
not_space head.NAK f = λ e. omega arith
not_space head.ACK f = λ e. omega arith
