-- What the layouts of tunings read of fields, by place, and what they do not read.
-- Assumes nothing.
use mathlib.Core.Path.{◌≡◌, refl, sym, ap, ◌∙◌}
use mathlib.Core.Option.{none, some}
use Rattle.std.specs.Prelude.{Option, Some}
use mathlib.Core.List.{List, [], ◌∷◌, ◌++◌, map}
use Prim.Native.Nat.{ℕ, suc, ◌+◌, ◌*◌, ◌<◌, ◌≤◌}
use native.Mathlib.Omega.{arith}
use lib.ListN.{length, take, drop, get_or, length-append}
use lib.Seq.{drop-cons}
use borrow.Author.Tests.{lt-ltb}
use Rattle.util.specs.Groups.{Seven}
use Rattle.util.proofs.Laws.Options.{not_some}
use Rattle.messages.specs.declared.head.Head.TheVariants as head
use Rattle.messages.specs.declared.tuning.Tuning.{Tuning}
use Rattle.messages.specs.declared.tuning.KeyTuning.{KeyTuning}
use Rattle.messages.specs.format.Tests.{other_length}
use Rattle.messages.specs.format.Lists.{all_bytes}
use Rattle.messages.specs.Fields.{u7, s7, s14, tuning}
use Rattle.messages.specs.Structures.{key_tuning}
use Rattle.messages.specs.Entries.{tuning_entry, tuning_of, change_entry, change_of}
use Rattle.messages.specs.Layouts.{form}
use Rattle.read_places.specs.Places.{value_at, tuning_at, change_at, tuning_entries, change_entries}
use Rattle.read_places.proofs.Laws.Numbers.{unsigned_at, seven_get, value_get}
use Rattle.read_places.proofs.Laws.Lists.{bytes_at, bytes_length, items_at}
use Rattle.read_places.proofs.Laws.Answers.{none_left}
use Rattle.read_tuning.specs.Scales.{scale_1_at, scale_2_at}
use Rattle.read_tuning.proofs.Laws.Entries.{tuning_reads, change_reads}
use Rattle.read_tuning.proofs.Laws.Scales.{s7_size, s14_size, scale_1_reads, scale_2_reads}

-- ---- how many bytes a list takes

tunings_size : (l : List (Option Tuning)) → length (all_bytes tuning l) ≡ 3 * length l
tunings_size [] = refl
tunings_size (x ∷ l) = omega (arith, tunings_size l)

changes_size : (l : List KeyTuning) → length (all_bytes key_tuning l) ≡ 4 * length l
changes_size [] = refl
changes_size (x ∷ l) = omega (arith, changes_size l)

module _ (f : List ℕ) (s : Seven f) where
  -- ---- bulk requests

  pub bulk_size : (length f ≡ 1 → ⊥) → (form head.TuningBulkDumpRequest).read f ≡ none
  bulk_size k = other_length (form head.TuningBulkDumpRequest) 1 (λ a. refl) f k

  pub bulk_reads : length f ≡ 1 → (form head.TuningBulkDumpRequest).read f ≡ some (value_at 1 f 0)
  bulk_reads n = rw (unsigned_at f s 1 0 (omega arith), none_left f 1 n)

  pub bank_bulk_size : (length f ≡ 2 → ⊥) → (form head.BankTuningBulkDumpRequest).read f ≡ none
  bank_bulk_size k = other_length (form head.BankTuningBulkDumpRequest) 2 (λ a. refl) f k

  pub bank_bulk_reads : length f ≡ 2 → (form head.BankTuningBulkDumpRequest).read f ≡ some (record { bank = value_at 1 f 0; program = value_at 1 f 1 })
  bank_bulk_reads n = rw (unsigned_at f s 1 0 (omega arith), unsigned_at f s 1 1 (omega arith), none_left f 2 n)

  -- ---- key dumps

  pub keys_size : (length f ≡ 401 → ⊥) → (form head.KeyBasedTuningDump).read f ≡ none
  keys_size k =
      not_some ((form head.KeyBasedTuningDump).read f)
      λ a e. let w = (form head.KeyBasedTuningDump).only f a e in
      let n : length f ≡ suc (length (all_bytes u7 a.name ++ all_bytes tuning a.tunings)) = sym (ap length w.1) in
      k (omega (arith, length-append (all_bytes u7 a.name) (all_bytes tuning a.tunings), bytes_length a.name, tunings_size a.tunings, w.0.0.1.0.0, w.0.0.1.1.0))

  pub keys_read : length f ≡ 401
      → (form head.KeyBasedTuningDump).read f
      ≡ some (record { program = value_at 1 f 0; name = take 16 (drop 1 f); tunings = map tuning_of (tuning_entries f 17 128) })
  keys_read n =
      rw (
        unsigned_at f s 1 0 (omega arith),
        bytes_at f s 16 1 (omega arith),
        items_at tuning 3 tuning_of (λ j. tuning_entry (tuning_at f j)) f (tuning_reads f s) 128 17 (omega arith),
        none_left f 401 n,
      )

  pub bank_keys_size : (length f ≡ 402 → ⊥) → (form head.BankKeyBasedTuningDump).read f ≡ none
  bank_keys_size k =
      not_some ((form head.BankKeyBasedTuningDump).read f)
      λ a e. let w = (form head.BankKeyBasedTuningDump).only f a e in
      let n : length f ≡ suc (suc (length (all_bytes u7 a.name ++ all_bytes tuning a.tunings))) = sym (ap length w.1) in
      k (omega (arith, length-append (all_bytes u7 a.name) (all_bytes tuning a.tunings), bytes_length a.name, tunings_size a.tunings, w.0.0.1.1.0.0, w.0.0.1.1.1.0))

  pub bank_keys_read : length f ≡ 402
      → (form head.BankKeyBasedTuningDump).read f
      ≡ some (record { bank = value_at 1 f 0; program = value_at 1 f 1; name = take 16 (drop 2 f); tunings = map tuning_of (tuning_entries f 18 128) })
  bank_keys_read n =
      rw (
        unsigned_at f s 1 0 (omega arith),
        unsigned_at f s 1 1 (omega arith),
        bytes_at f s 16 2 (omega arith),
        items_at tuning 3 tuning_of (λ j. tuning_entry (tuning_at f j)) f (tuning_reads f s) 128 18 (omega arith),
        none_left f 402 n,
      )

  -- ---- scale dumps

  pub scale_dump_1_size : (length f ≡ 30 → ⊥) → (form head.ScaleTuningDump1Byte).read f ≡ none
  scale_dump_1_size k =
      not_some ((form head.ScaleTuningDump1Byte).read f)
      λ a e. let w = (form head.ScaleTuningDump1Byte).only f a e in
      let n : length f ≡ suc (suc (length (all_bytes u7 a.name ++ all_bytes s7 a.scale))) = sym (ap length w.1) in
      k (n ∙ omega (arith, length-append (all_bytes u7 a.name) (all_bytes s7 a.scale), bytes_length a.name, s7_size a.scale, w.0.0.1.1.0.0, w.0.0.1.1.1.0))

  pub scale_dump_1_reads : length f ≡ 30
      → (form head.ScaleTuningDump1Byte).read f
      ≡ some (record { bank = value_at 1 f 0; program = value_at 1 f 1; name = take 16 (drop 2 f); scale = scale_1_at f 18 })
  scale_dump_1_reads n =
      rw (
        unsigned_at f s 1 0 (omega arith),
        unsigned_at f s 1 1 (omega arith),
        bytes_at f s 16 2 (omega arith),
        scale_1_reads f s 18 (omega arith),
        none_left f 30 n,
      )

  pub scale_dump_2_size : (length f ≡ 42 → ⊥) → (form head.ScaleTuningDump2Byte).read f ≡ none
  scale_dump_2_size k =
      not_some ((form head.ScaleTuningDump2Byte).read f)
      λ a e. let w = (form head.ScaleTuningDump2Byte).only f a e in
      let n : length f ≡ suc (suc (length (all_bytes u7 a.name ++ all_bytes s14 a.scale))) = sym (ap length w.1) in
      k (n ∙ omega (arith, length-append (all_bytes u7 a.name) (all_bytes s14 a.scale), bytes_length a.name, s14_size a.scale, w.0.0.1.1.0.0, w.0.0.1.1.1.0))

  pub scale_dump_2_reads : length f ≡ 42
      → (form head.ScaleTuningDump2Byte).read f
      ≡ some (record { bank = value_at 1 f 0; program = value_at 1 f 1; name = take 16 (drop 2 f); scale = scale_2_at f 18 })
  scale_dump_2_reads n =
      rw (
        unsigned_at f s 1 0 (omega arith),
        unsigned_at f s 1 1 (omega arith),
        bytes_at f s 16 2 (omega arith),
        scale_2_reads f s 18 (omega arith),
        none_left f 42 n,
      )

  -- ---- note changes

  pub changes_not : (3 ≤ length f → length f ≡ 3 + 4 * value_at 1 f 2 → ⊥) → (form head.TuningNoteChange).read f ≡ none
  changes_not k =
      not_some ((form head.TuningNoteChange).read f)
      λ a e. let w = ((form head.TuningNoteChange).only f a e).1 in
      let n : length f ≡ suc (suc (suc (length (all_bytes key_tuning a.changes)))) = sym (ap length w) in
      let x : get_or f 2 0 ≡ length a.changes = sym (ap (λ (l : List ℕ). get_or l 2 0) w) in
      let c = changes_size a.changes in
      let v = value_get f 2 in
      k (omega arith) (omega arith)

  pub changes_read : 3 ≤ length f → length f ≡ 3 + 4 * value_at 1 f 2
      → (form head.TuningNoteChange).read f
      ≡ some (record { bank = Some (value_at 1 f 0); program = value_at 1 f 1; changes = map change_of (change_entries f 3 (value_at 1 f 2)) })
  changes_read m n =
      let g : get_or f 2 0 < 128 = seven_get f 2 s in
      let v = value_get f 2 in
      rw (
        v,
        unsigned_at f s 1 0 (omega arith),
        unsigned_at f s 1 1 (omega arith),
        drop-cons f 2 0 (omega arith),
        lt-ltb _ _ g,
        items_at key_tuning 4 change_of (λ j. change_entry (change_at f j)) f (change_reads f s) (get_or f 2 0) 3 (omega arith),
        none_left f (3 + 4 * get_or f 2 0) (omega arith),
      )
