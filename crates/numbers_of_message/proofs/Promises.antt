-- What the numbers promise: the numbers of a representable message are read as that message.
-- Assumes nothing.
use mathlib.Core.Path.{◌≡◌, refl, ap, ◌∙◌}
use mathlib.Core.List.{List, [], ◌∷◌, ◌++◌}
use Prim.Native.Nat.{ℕ}
use Rattle.numbers_to_message.specs.declared.fit.NumberType.{NumberType}
use Rattle.numbers_to_message.specs.declared.fit.NumberType.TheVariants.{U16, ReferenceType}
use Rattle.std.specs.Prelude.{Option, Some, None}
use lib.IntN.{ℤ, pos}
use lib.ListN.{length, get_or}
use native.Mathlib.Omega.{arith}
use Rattle.numbers_to_message.specs.Types.{Made, DeviceID, ManufacturerID, SelectMap, FileReferenceType, UniversalNonRealTimeMsg}
use Rattle.numbers_to_message.specs.Rows.{Fun, Row}
use Rattle.numbers_to_message.specs.Rows as row
use Rattle.numbers_to_message.specs.Table.{read, or_other, read_first, message_of_numbers}
use Rattle.messages.specs.declared.sample_dump.SampleDumpMsg.TheVariants as sample
use Rattle.messages.specs.declared.sample_dump.ExtendedSampleDumpMsg.TheVariants as extended
use Rattle.messages.specs.declared.file_dump.FileDumpMsg.TheVariants as file
use Rattle.messages.specs.declared.general_midi.GeneralMidi.TheVariants.{GM1, Off, GM2}
use Rattle.messages.specs.declared.file_reference.SelectMap.TheVariants as select
use Rattle.messages.specs.declared.file_reference.FileReferenceMsg.TheVariants as reference
use Rattle.messages.specs.declared.system_exclusive.ManufacturerID.TheVariants.{OneByte, Extended}
use Rattle.messages.specs.declared.system_exclusive.UniversalNonRealTimeMsg.TheVariants as msg
use Rattle.numbers_of_message.specs.Numbers.{Field, field_numbers, of_select, coded, numbers_of}
use Rattle.numbers_of_message.specs.Representable.{AllRepresentable, MessageRepresentable}
use Rattle.numbers_of_message.specs.Promises.{NumbersBack, RepresentableExactly}
use Rattle.numbers_of_message.proofs.ValuesBack.{value_back}
use Rattle.numbers_of_message.proofs.RepresentableOnly.{representable_only}
use Rattle.numbers_of_message.proofs.RowsBack.{types, after, row_back, row_after, coded_back, one_back}

-- ---- twelve values, each by its place, are the list

abbrev places : List ℤ → List ℤ
places s =
    get_or s 0 (pos 0) ∷ get_or s 1 (pos 0) ∷ get_or s 2 (pos 0) ∷ get_or s 3 (pos 0) ∷ get_or s 4 (pos 0) ∷ get_or s 5 (pos 0) ∷ get_or s 6 (pos 0) ∷ get_or s 7 (pos 0) ∷ get_or s 8 (pos 0) ∷ get_or s 9 (pos 0) ∷ get_or s 10 (pos 0) ∷ get_or s 11 (pos 0) ∷ []

by_place : (s : List ℤ) → length s ≡ 12 → places s ≡ s
by_place [] q = absurd (omega arith)
by_place (a ∷ []) q = absurd (omega arith)
by_place (a ∷ b ∷ []) q = absurd (omega arith)
by_place (a ∷ b ∷ c ∷ []) q = absurd (omega arith)
by_place (a ∷ b ∷ c ∷ e ∷ []) q = absurd (omega arith)
by_place (a ∷ b ∷ c ∷ e ∷ f ∷ []) q = absurd (omega arith)
by_place (a ∷ b ∷ c ∷ e ∷ f ∷ g ∷ []) q = absurd (omega arith)
by_place (a ∷ b ∷ c ∷ e ∷ f ∷ g ∷ h ∷ []) q = absurd (omega arith)
by_place (a ∷ b ∷ c ∷ e ∷ f ∷ g ∷ h ∷ i ∷ []) q = absurd (omega arith)
by_place (a ∷ b ∷ c ∷ e ∷ f ∷ g ∷ h ∷ i ∷ j ∷ []) q = absurd (omega arith)
by_place (a ∷ b ∷ c ∷ e ∷ f ∷ g ∷ h ∷ i ∷ j ∷ k ∷ []) q = absurd (omega arith)
by_place (a ∷ b ∷ c ∷ e ∷ f ∷ g ∷ h ∷ i ∷ j ∷ k ∷ m ∷ []) q = absurd (omega arith)
by_place (a ∷ b ∷ c ∷ e ∷ f ∷ g ∷ h ∷ i ∷ j ∷ k ∷ m ∷ n ∷ []) q = refl
by_place (a ∷ b ∷ c ∷ e ∷ f ∷ g ∷ h ∷ i ∷ j ∷ k ∷ m ∷ n ∷ o ∷ l) q = absurd (omega arith)

-- ---- messages with a part that has forms

module _ (d : DeviceID) where
  abbrev Back : UniversalNonRealTimeMsg → Type 0
  Back m = MessageRepresentable d m → message_of_numbers (numbers_of d m) ≡ Some (d, m)

  reply_back : (id : ManufacturerID) (f k a b c e : ℕ) → Back (row.reply id f k a b c e)
  reply_back (OneByte n) f k a b c e h =
      let m = row.reply (OneByte n) f k a b c e in
      let l = (coded m).1 in
      coded_back d m h.0
      ∙ ap (λ (x : Made). or_other x (read (row.two_byte_reply).types (row.two_byte_reply).make d (field_numbers l))) (row_back l (row.one_byte_reply).make d h.1)
  reply_back (Extended n o) f k a b c e h =
      let m = row.reply (Extended n o) f k a b c e in
      coded_back d m h.0 ∙ row_back (coded m).1 (row.two_byte_reply).make d h.1

  request_back : (b : Option ℕ) (p : ℕ) → Back (msg.TuningBulkDumpRequest b p)
  request_back None p h = one_back d _ (row.bulk_request).make h refl refl
  request_back (Some b) p h = one_back d _ (row.bank_bulk_request).make h refl refl

  keys_back : (b : Option ℕ) (p : ℕ) → Back (msg.KeyBasedTuningDump (record { tuning_bank_num = b; tuning_program_num = p }))
  keys_back None p h = one_back d _ (row.keys).make h refl refl
  keys_back (Some b) p h = one_back d _ (row.bank_keys).make h refl refl

  -- the rows of a map after representable fields, by their forms
  module _ (l : List Field) (f : SelectMap → UniversalNonRealTimeMsg) (representable : AllRepresentable l)
      (m0 : Fun (types l ++ row.list_types) UniversalNonRealTimeMsg) (e0 : after l row.list_types m0 ≡ row.list_map f)
      (m1 : Fun (types l ++ row.offset_types) UniversalNonRealTimeMsg) (e1 : after l row.offset_types m1 ≡ row.offset_map f)
      (m2 : Fun (types l ++ row.wav_types) UniversalNonRealTimeMsg) (e2 : after l row.wav_types m2 ≡ row.plain_map f)
      (m3 : Fun (types l ++ row.both_types) UniversalNonRealTimeMsg) (e3 : after l row.both_types m3 ≡ row.both_map f) where
    form : (ts : List NumberType) (m : Fun (types l ++ ts) UniversalNonRealTimeMsg) (n : Fun ts UniversalNonRealTimeMsg) (xs : List ℕ) → after l ts m ≡ n
        → read (types l ++ ts) m d (field_numbers l ++ xs) ≡ read ts n d xs
    form ts m n xs e = row_after l ts m d xs representable ∙ ap (λ (k : Fun ts UniversalNonRealTimeMsg). read ts k d xs) e

    abbrev forms : List ℕ → Made
    forms xs =
        or_other (read row.list_types (row.list_map f) d xs)
        (or_other (read row.offset_types (row.offset_map f) d xs) (or_other (read row.wav_types (row.plain_map f) d xs) (read row.both_types (row.both_map f) d xs)))

    forms_back : (s : SelectMap) → AllRepresentable (of_select s) → forms (field_numbers (of_select s)) ≡ Some (d, f s)
    forms_back select.SoundFile h = refl
    forms_back (select.SoundFileBankOffset o b) h =
        let s = of_select (select.SoundFileBankOffset o b) in
        let xs = field_numbers s in
        ap (λ (x : Made). or_other x (or_other (read row.wav_types (row.plain_map f) d xs) (read row.both_types (row.both_map f) d xs))) (row_back s (row.offset_map f) d h)
    forms_back (select.WAV w) h =
        let s = of_select (select.WAV w) in
        ap (λ (x : Made). or_other x (read row.both_types (row.both_map f) d (field_numbers s))) (row_back s (row.plain_map f) d h)
    forms_back (select.WAVBankOffset w o b) h = row_back (of_select (select.WAVBankOffset w o b)) (row.both_map f) d h

    abbrev form_rows : List Row
    form_rows =
        record { types = types l ++ row.list_types; make = m0 } ∷ record { types = types l ++ row.offset_types; make = m1 }
        ∷ record { types = types l ++ row.wav_types; make = m2 } ∷ record { types = types l ++ row.both_types; make = m3 } ∷ []

    map_back : (s : SelectMap) → AllRepresentable (of_select s) → read_first form_rows d (field_numbers l ++ field_numbers (of_select s)) ≡ Some (d, f s)
    map_back s h =
        let xs = field_numbers (of_select s) in
        (λ j. or_other (form row.list_types m0 (row.list_map f) xs e0 j)
        (or_other (form row.offset_types m1 (row.offset_map f) xs e1 j) (or_other (form row.wav_types m2 (row.plain_map f) xs e2 j) (form row.both_types m3 (row.both_map f) xs e3 j))))
        ∙ forms_back s h

  select_back : (c : ℕ) (s : SelectMap) → Back (row.selected c s)
  select_back c s h =
      coded_back d (row.selected c s) h.0
      ∙ map_back ((U16, c) ∷ []) (row.selected c) (h.1.0, tt) (row.select_list).make refl (row.select_offset).make refl (row.select_wav).make refl (row.select_both).make refl s h.1.1

  open_back : (c : ℕ) (t : FileReferenceType) (s : SelectMap) → Back (row.opened c t s)
  open_back c t s h =
      coded_back d (row.opened c t s) h.0
      ∙ map_back ((U16, c) ∷ (ReferenceType, t) ∷ []) (row.opened c t) (h.1.0, (tt, tt))
      (row.open_select_list).make refl (row.open_select_offset).make refl (row.open_select_wav).make refl (row.open_select_both).make refl s h.1.1.1

-- ---- all of them

pub numbers_back : NumbersBack
numbers_back d (msg.SampleDump (sample.Header n f p l s e t)) h = one_back d _ (row.header).make h refl refl
numbers_back d (msg.SampleDump (sample.Packet c)) h = one_back d _ (row.packet).make h refl refl
numbers_back d (msg.SampleDump (sample.Request n)) h = one_back d _ (row.request).make h refl refl
numbers_back d (msg.SampleDump (sample.LoopPointTransmission n i t s e)) h = one_back d _ (row.transmission).make h refl refl
numbers_back d (msg.SampleDump (sample.LoopPointsRequest n i)) h = one_back d _ (row.points_request).make h refl refl
numbers_back d (msg.ExtendedSampleDump (extended.SampleName n)) h = one_back d _ (row.name).make h refl refl
numbers_back d (msg.ExtendedSampleDump (extended.SampleNameRequest n)) h = one_back d _ (row.name_request).make h refl refl
numbers_back d (msg.ExtendedSampleDump (extended.Header n f w r l s e t c)) h = one_back d _ (row.extended_header).make h refl refl
numbers_back d (msg.ExtendedSampleDump (extended.LoopPointTransmission n i t s e)) h = one_back d _ (row.extended_transmission).make h refl refl
numbers_back d (msg.ExtendedSampleDump (extended.LoopPointsRequest n i)) h = one_back d _ (row.extended_points_request).make h refl refl
numbers_back d msg.IdentityRequest h = one_back d _ (row.identity_request).make h refl refl
numbers_back d (msg.IdentityReply r) h =
    reply_back d r.id r.family r.family_member r.software_revision.0 r.software_revision.1 r.software_revision.2 r.software_revision.3 h
numbers_back d (msg.FileDump (file.Header s t l)) h = one_back d _ (row.file_header).make h refl refl
numbers_back d (msg.FileDump (file.Packet c)) h = one_back d _ (row.file_packet).make h refl refl
numbers_back d (msg.FileDump (file.Request r t)) h = one_back d _ (row.file_request).make h refl refl
numbers_back d (msg.TuningBulkDumpRequest b p) h = request_back d b p h
numbers_back d (msg.KeyBasedTuningDump k) h = keys_back d k.tuning_bank_num k.tuning_program_num h
numbers_back d (msg.ScaleTuningDump1Byte s) h = one_back d _ (row.scale_dump_1).make h refl (ap (λ (t : List ℤ). msg.ScaleTuningDump1Byte (record { tuning_bank_num = s.tuning_bank_num; tuning_program_num = s.tuning_program_num; tuning = t })) (by_place s.tuning h.2))
numbers_back d (msg.ScaleTuningDump2Byte s) h = one_back d _ (row.scale_dump_2).make h refl (ap (λ (t : List ℤ). msg.ScaleTuningDump2Byte (record { tuning_bank_num = s.tuning_bank_num; tuning_program_num = s.tuning_program_num; tuning = t })) (by_place s.tuning h.2))
numbers_back d (msg.TuningNoteChange c) h = one_back d _ (row.note_change).make h refl refl
numbers_back d (msg.ScaleTuning1Byte s) h = one_back d _ (row.scale_tuning_1).make h refl (ap (λ (t : List ℤ). msg.ScaleTuning1Byte (record { channels = s.channels; tuning = t })) (by_place s.tuning h.2))
numbers_back d (msg.ScaleTuning2Byte s) h = one_back d _ (row.scale_tuning_2).make h refl (ap (λ (t : List ℤ). msg.ScaleTuning2Byte (record { channels = s.channels; tuning = t })) (by_place s.tuning h.2))
numbers_back d (msg.GeneralMidi GM1) h = one_back d _ (msg.GeneralMidi GM1) h refl refl
numbers_back d (msg.GeneralMidi Off) h = one_back d _ (msg.GeneralMidi Off) h refl refl
numbers_back d (msg.GeneralMidi GM2) h = one_back d _ (msg.GeneralMidi GM2) h refl refl
numbers_back d (msg.FileReference (reference.Open c t)) h = one_back d _ (row.open_file).make h refl refl
numbers_back d (msg.FileReference (reference.SelectContents c m)) h = select_back d c m h
numbers_back d (msg.FileReference (reference.OpenSelectContents c t m)) h = open_back d c t m h
numbers_back d (msg.FileReference (reference.Close c)) h = one_back d _ (row.close_file).make h refl refl
numbers_back d msg.EOF h = one_back d _ msg.EOF h refl refl
numbers_back d msg.Wait h = one_back d _ msg.Wait h refl refl
numbers_back d msg.Cancel h = one_back d _ msg.Cancel h refl refl
numbers_back d (msg.NAK n) h = one_back d _ (row.nak).make h refl refl
numbers_back d (msg.ACK n) h = one_back d _ (row.ack).make h refl refl

pub representable_exactly : RepresentableExactly
representable_exactly t v = (value_back t v, representable_only t v)
