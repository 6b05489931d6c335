-- The fields of file dumps, by place.
-- Assumes nothing.
use mathlib.Core.Path.{◌≡◌, refl, sym, ap, ◌∙◌}
use mathlib.Core.Bool.{Bool, true, false}
use mathlib.Core.Option.{Option, none, some}
use mathlib.Core.List.{List}
use Prim.Native.Nat.{ℕ, suc, ◌+◌, ◌-◌, ◌/◌, ◌≤◌, ◌<◌}
use native.Mathlib.Omega.{arith}
use lib.Dec.{eqb}
use lib.ListN.{length, take, drop, get_or, length-drop}
use lib.Seq.{drop-cons}
use borrow.Author.Tests.{le-leb, lt-leb, leb-true, eq-eqb, ne_eqb}
use Rattle.util.specs.Limits.{most_name, most_data}
use Rattle.util.specs.Groups.{Seven}
use Rattle.util.specs.Options.{only_if, map_option}
use Rattle.util.specs.Packing.{pack}
use Rattle.util.proofs.Laws.Groups.{seven_drop, true_seven}
use Rattle.util.proofs.Laws.Options.{not_some}
use Rattle.util.proofs.Laws.Splice.{tail_drop}
use Rattle.messages.specs.declared.head.Head.TheVariants as head
use Rattle.messages.specs.Fields.{device_of}
use Rattle.messages.specs.Layouts.{form, Fields}
use Rattle.messages.specs.Records.{file_packet}
use Rattle.messages.specs.format.Packed.{counted_as, count_byte}
use Rattle.read_places.specs.Places.{value_at, data_at, none_over}
use Rattle.read_places.proofs.Laws.Numbers.{unsigned_at}
use Rattle.read_file_dump.specs.Places.{type_at}
use Rattle.read_file_dump.proofs.Laws.Packed.{unpack_none_over, data_length}

module _ (f : List ℕ) (s : Seven f) where
  -- ---- 07 01

  pub header_not : (9 ≤ length f → length f ≤ 9 + most_name → ⊥) → (form head.FileDumpHeader).read f ≡ none
  header_not k =
      not_some ((form head.FileDumpHeader).read f)
      λ a e. let w = (form head.FileDumpHeader).only f a e in
      let n = sym (ap length w.1) in
      let m : length a.name ≤ most_name = leb-true (length a.name) most_name w.0.1.1.1.1 in
      k (omega arith) (omega arith)

  pub header_reads : 9 ≤ length f → length f ≤ 9 + most_name
      → (form head.FileDumpHeader).read f
      ≡ some (record { sender = device_of (value_at 1 f 0); type = type_at f 1; length = value_at 4 f 5; name = take (length f - 9) (drop 9 f) })
  header_reads h m =
      rw (
        tail_drop f 9,
        unsigned_at f s 1 0 (omega arith),
        unsigned_at f s 1 1 (omega arith),
        unsigned_at f s 1 2 (omega arith),
        unsigned_at f s 1 3 (omega arith),
        unsigned_at f s 1 4 (omega arith),
        unsigned_at f s 4 5 (omega arith),
        true_seven (drop 9 f) (seven_drop 9 f s),
        le-leb (length (drop 9 f)) most_name (omega (arith, length-drop 9 f)),
      )

  -- ---- 07 03

  pub request_not : (5 ≤ length f → length f ≤ 5 + most_name → ⊥) → (form head.FileDumpRequest).read f ≡ none
  request_not k =
      not_some ((form head.FileDumpRequest).read f)
      λ a e. let w = (form head.FileDumpRequest).only f a e in
      let n = sym (ap length w.1) in
      let m : length a.name ≤ most_name = leb-true (length a.name) most_name w.0.1.1.1 in
      k (omega arith) (omega arith)

  pub request_reads : 5 ≤ length f → length f ≤ 5 + most_name
      → (form head.FileDumpRequest).read f ≡ some (record { requester = device_of (value_at 1 f 0); type = type_at f 1; name = take (length f - 5) (drop 5 f) })
  request_reads h m =
      rw (
        tail_drop f 5,
        unsigned_at f s 1 0 (omega arith),
        unsigned_at f s 1 1 (omega arith),
        unsigned_at f s 1 2 (omega arith),
        unsigned_at f s 1 3 (omega arith),
        unsigned_at f s 1 4 (omega arith),
        true_seven (drop 5 f) (seven_drop 5 f s),
        le-leb (length (drop 5 f)) most_name (omega (arith, length-drop 5 f)),
      )

  -- ---- 07 02

  pub packet_short : length f < 2 → (form head.FileDumpPacket).read f ≡ none
  packet_short h =
      not_some ((form head.FileDumpPacket).read f)
      λ a e. let n : length f ≡ suc (suc (length (pack 0 a.file_data))) = sym (ap length ((form head.FileDumpPacket).only f a e).1) in
      omega arith

  abbrev packet_of : Option (List ℕ) → Option (Fields head.FileDumpPacket)
  packet_of o = map_option file_packet.from (map_option {B = ℕ × List ℕ} (λ l. (value_at 1 f 0, l)) o)

  packet_is : 2 ≤ length f
      → (form head.FileDumpPacket).read f ≡ packet_of (counted_as (get_or f 1 0) (only_if (none_over 0 0 (drop 2 f)) (some (data_at f 2))))
  packet_is h =
      rw (
        unsigned_at f s 1 0 (omega arith),
        drop-cons f 1 0 (omega arith),
        true_seven (drop 2 f) (seven_drop 2 f s),
        unpack_none_over 0 0 (drop 2 f) (omega arith),
      )

  no_packet : (t : Bool) → packet_of (only_if t none) ≡ none
  no_packet true = refl
  no_packet false = refl

  pub packet_over : 2 ≤ length f → none_over 0 0 (drop 2 f) ≡ false → (form head.FileDumpPacket).read f ≡ none
  packet_over h e = packet_is h ∙ rw e

  long : (t : Bool) (n : ℕ) (l : List ℕ) → most_data < length l → packet_of (counted_as n (only_if t (some l))) ≡ none
  long true n l g = rw (lt-leb (length l) most_data g) (no_packet (eqb n (count_byte l)))
  long false n l g = refl

  pub packet_long : 2 ≤ length f → most_data < length (data_at f 2) → (form head.FileDumpPacket).read f ≡ none
  packet_long h g = packet_is h ∙ long (none_over 0 0 (drop 2 f)) (get_or f 1 0) (data_at f 2) g

  other_count : (t : Bool) (n : ℕ) (l : List ℕ) → (n ≡ count_byte l → ⊥) → packet_of (counted_as n (only_if t (some l))) ≡ none
  other_count true n l g = rw (ne_eqb n (count_byte l) g)
  other_count false n l g = refl

  pub packet_count : 2 ≤ length f → (get_or f 1 0 ≡ count_byte (data_at f 2) → ⊥) → (form head.FileDumpPacket).read f ≡ none
  packet_count h g = packet_is h ∙ other_count (none_over 0 0 (drop 2 f)) (get_or f 1 0) (data_at f 2) g

  pub packet_reads : 2 ≤ length f → none_over 0 0 (drop 2 f) ≡ true → length (data_at f 2) ≤ most_data → get_or f 1 0 ≡ count_byte (data_at f 2)
      → (form head.FileDumpPacket).read f ≡ some (record { count = value_at 1 f 0; file_data = data_at f 2 })
  packet_reads h e g c = packet_is h ∙ rw (e, eq-eqb _ _ c, le-leb _ _ g)

  -- how many data bytes there are
  pub packet_size : length (data_at f 2) ≡ length f - 2 - (length f - 2 + 7) / 8
  packet_size = omega (arith, data_length 0 0 (drop 2 f) (omega arith), length-drop 2 f)
