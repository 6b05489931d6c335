-- The fields of the heads by name, in wire order. A head whose only field is one number has no record.
use Rattle.std.specs.Prelude.{refl, Option, List, ℕ}
use Rattle.messages.specs.Types.{LoopType, ExtendedLoopType, LoopNumber, DeviceID, FileType, Tuning, KeyTuning, FileReferenceType}
use Rattle.messages.specs.format.Views.{Names, names}
use Rattle.messages.specs.Maps.{AnySelect}

-- 01 sample header
pub record SampleHeader : Type 0 where
  pub sample : ℕ
  pub format : ℕ
  pub period : ℕ
  pub length : ℕ
  pub loop_start : ℕ
  pub loop_end : ℕ
  pub loop_type : LoopType

abbrev pub sample_header : Names (ℕ × (ℕ × (ℕ × (ℕ × (ℕ × (ℕ × LoopType)))))) SampleHeader
sample_header =
    names (λ r. (r.sample, (r.format, (r.period, (r.length, (r.loop_start, (r.loop_end, r.loop_type)))))))
    (λ x. record { sample = x.0; format = x.1.0; period = x.1.1.0; length = x.1.1.1.0; loop_start = x.1.1.1.1.0; loop_end = x.1.1.1.1.1.0; loop_type = x.1.1.1.1.1.1 }) (λ x. refl) (λ r. refl)

-- 02 sample packet
pub record SamplePacket : Type 0 where
  pub count : ℕ
  pub samples : List ℕ

abbrev pub sample_packet : Names (ℕ × List ℕ) SamplePacket
sample_packet =
    names (λ r. (r.count, r.samples))
    (λ x. record { count = x.0; samples = x.1 }) (λ x. refl) (λ r. refl)

-- 05 01 and 05 06 loop transmission, over the loop types
pub record LoopTransmission (T : Type 0) : Type 0 where
  pub sample : ℕ
  pub loop_number : LoopNumber
  pub loop_type : T
  pub start : ℕ
  pub end : ℕ

abbrev pub loop_transmission : {T : Type 0} → Names (ℕ × (LoopNumber × (T × (ℕ × ℕ)))) (LoopTransmission T)
loop_transmission =
    names (λ r. (r.sample, (r.loop_number, (r.loop_type, (r.start, r.end)))))
    (λ x. record { sample = x.0; loop_number = x.1.0; loop_type = x.1.1.0; start = x.1.1.1.0; end = x.1.1.1.1 }) (λ x. refl) (λ r. refl)

-- 05 02 and 05 07 loop request
pub record LoopRequest : Type 0 where
  pub sample : ℕ
  pub loop_number : LoopNumber

abbrev pub loop_request : Names (ℕ × LoopNumber) LoopRequest
loop_request =
    names (λ r. (r.sample, r.loop_number))
    (λ x. record { sample = x.0; loop_number = x.1 }) (λ x. refl) (λ r. refl)

-- 05 03 sample name
pub record NamedSample : Type 0 where
  pub sample : ℕ
  pub name : List ℕ

abbrev pub named_sample : Names (ℕ × List ℕ) NamedSample
named_sample =
    names (λ r. (r.sample, r.name))
    (λ x. record { sample = x.0; name = x.1 }) (λ x. refl) (λ r. refl)

-- 05 05 extended header
pub record ExtendedHeader : Type 0 where
  pub sample : ℕ
  pub format : ℕ
  pub rate_whole : ℕ
  pub rate_fraction : ℕ
  pub length : ℕ
  pub loop_start : ℕ
  pub loop_end : ℕ
  pub loop_type : ExtendedLoopType
  pub channels : ℕ

abbrev pub extended_header : Names (ℕ × (ℕ × (ℕ × (ℕ × (ℕ × (ℕ × (ℕ × (ExtendedLoopType × ℕ)))))))) ExtendedHeader
extended_header =
    names (λ r. (r.sample, (r.format, (r.rate_whole, (r.rate_fraction, (r.length, (r.loop_start, (r.loop_end, (r.loop_type, r.channels)))))))))
    (λ x. record { sample = x.0; format = x.1.0; rate_whole = x.1.1.0; rate_fraction = x.1.1.1.0; length = x.1.1.1.1.0; loop_start = x.1.1.1.1.1.0; loop_end = x.1.1.1.1.1.1.0; loop_type = x.1.1.1.1.1.1.1.0; channels = x.1.1.1.1.1.1.1.1 }) (λ x. refl) (λ r. refl)

-- 07 01 file header
pub record FileHeader : Type 0 where
  pub sender : DeviceID
  pub type : FileType
  pub length : ℕ
  pub name : List ℕ

abbrev pub file_header : Names (DeviceID × (FileType × (ℕ × List ℕ))) FileHeader
file_header =
    names (λ r. (r.sender, (r.type, (r.length, r.name))))
    (λ x. record { sender = x.0; type = x.1.0; length = x.1.1.0; name = x.1.1.1 }) (λ x. refl) (λ r. refl)

-- 07 02 file packet
pub record FilePacket : Type 0 where
  pub count : ℕ
  pub file_data : List ℕ

abbrev pub file_packet : Names (ℕ × List ℕ) FilePacket
file_packet =
    names (λ r. (r.count, r.file_data))
    (λ x. record { count = x.0; file_data = x.1 }) (λ x. refl) (λ r. refl)

-- 07 03 file request
pub record FileRequest : Type 0 where
  pub requester : DeviceID
  pub type : FileType
  pub name : List ℕ

abbrev pub file_request : Names (DeviceID × (FileType × List ℕ)) FileRequest
file_request =
    names (λ r. (r.requester, (r.type, r.name)))
    (λ x. record { requester = x.0; type = x.1.0; name = x.1.1 }) (λ x. refl) (λ r. refl)

-- 08 03 bulk request with a bank
pub record BankRequest : Type 0 where
  pub bank : ℕ
  pub program : ℕ

abbrev pub bank_request : Names (ℕ × ℕ) BankRequest
bank_request =
    names (λ r. (r.bank, r.program))
    (λ x. record { bank = x.0; program = x.1 }) (λ x. refl) (λ r. refl)

-- 08 01 key dump
pub record KeyDump : Type 0 where
  pub program : ℕ
  pub name : List ℕ
  pub tunings : List (Option Tuning)

abbrev pub key_dump : Names (ℕ × (List ℕ × List (Option Tuning))) KeyDump
key_dump =
    names (λ r. (r.program, (r.name, r.tunings)))
    (λ x. record { program = x.0; name = x.1.0; tunings = x.1.1 }) (λ x. refl) (λ r. refl)

-- 08 04 key dump with a bank
pub record BankKeyDump : Type 0 where
  pub bank : ℕ
  pub program : ℕ
  pub name : List ℕ
  pub tunings : List (Option Tuning)

abbrev pub bank_key_dump : Names (ℕ × (ℕ × (List ℕ × List (Option Tuning)))) BankKeyDump
bank_key_dump =
    names (λ r. (r.bank, (r.program, (r.name, r.tunings))))
    (λ x. record { bank = x.0; program = x.1.0; name = x.1.1.0; tunings = x.1.1.1 }) (λ x. refl) (λ r. refl)

-- 08 05 and 08 06 scale dump, over the scales
pub record ScaleDump (S : Type 0) : Type 0 where
  pub bank : ℕ
  pub program : ℕ
  pub name : List ℕ
  pub scale : S

abbrev pub scale_dump : {S : Type 0} → Names (ℕ × (ℕ × (List ℕ × S))) (ScaleDump S)
scale_dump =
    names (λ r. (r.bank, (r.program, (r.name, r.scale))))
    (λ x. record { bank = x.0; program = x.1.0; name = x.1.1.0; scale = x.1.1.1 }) (λ x. refl) (λ r. refl)

-- 08 07 note change
pub record NoteChange : Type 0 where
  pub bank : Option ℕ
  pub program : ℕ
  pub changes : List KeyTuning

abbrev pub note_change : Names (Option ℕ × (ℕ × List KeyTuning)) NoteChange
note_change =
    names (λ r. (r.bank, (r.program, r.changes)))
    (λ x. record { bank = x.0; program = x.1.0; changes = x.1.1 }) (λ x. refl) (λ r. refl)

-- 08 08 and 08 09 scale tuning, over the scales
pub record ScaleTuning (S : Type 0) : Type 0 where
  pub channels : ℕ
  pub scale : S

abbrev pub scale_tuning : {S : Type 0} → Names (ℕ × S) (ScaleTuning S)
scale_tuning = names (λ r. (r.channels, r.scale)) (λ x. record { channels = x.0; scale = x.1 }) (λ x. refl) (λ r. refl)

-- 0B 01 open
pub record FileOpen : Type 0 where
  pub context : ℕ
  pub type : FileReferenceType
  pub url : List ℕ

abbrev pub file_open : Names (ℕ × (FileReferenceType × List ℕ)) FileOpen
file_open =
    names (λ r. (r.context, (r.type, r.url)))
    (λ x. record { context = x.0; type = x.1.0; url = x.1.1 }) (λ x. refl) (λ r. refl)

-- 0B 02 select, over the maps
pub record Select (M : Type 0) : Type 0 where
  pub context : ℕ
  pub map : M

abbrev pub select : {M : Type 0} → Names (ℕ × M) (Select M)
select = names (λ r. (r.context, r.map)) (λ x. record { context = x.0; map = x.1 }) (λ x. refl) (λ r. refl)

-- 0B 03 open and select
pub record OpenSelect : Type 0 where
  pub context : ℕ
  pub type : FileReferenceType
  pub url : List ℕ
  pub map : AnySelect

abbrev pub open_select : Names (ℕ × (FileReferenceType × (List ℕ × AnySelect))) OpenSelect
open_select =
    names (λ r. (r.context, (r.type, (r.url, r.map))))
    (λ x. record { context = x.0; type = x.1.0; url = x.1.1.0; map = x.1.1.1 }) (λ x. refl) (λ r. refl)

-- 0B 04 close: the context alone
abbrev pub close_context : Names (ℕ × Unit {0}) ℕ
close_context = names (λ n. (n, tt)) (λ x. x.0) (λ x. refl) (λ n. refl)
