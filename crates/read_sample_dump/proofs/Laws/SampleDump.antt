-- The layouts of sample dumps by place: what they read, and where they read nothing.
-- Assumes nothing.
use mathlib.Core.Path.{◌≡◌, refl, sym, ap, ◌∙◌}
use mathlib.Core.Logic.{⊎_elim}
use mathlib.Core.Bool.{Bool, true}
use mathlib.Core.Option.{none, some}
use mathlib.Core.List.{List, [], ◌∷◌}
use Prim.Native.Nat.{ℕ, ◌+◌, suc, ◌≤◌, ◌<◌}
use native.Mathlib.Nat.{eq-or-lt_of_le}
use native.Mathlib.Omega.{arith}
use lib.Dec.{lit<, lit≤, eqb}
use lib.ListN.{length, take, drop, get_or}
use Rattle.util.specs.Limits.{least_format, most_format, sample_bytes}
use Rattle.util.specs.Groups.{Seven}
use Rattle.util.proofs.Laws.Options.{not_some}
use Rattle.messages.specs.declared.head.Head.TheVariants as head
use Rattle.messages.specs.declared.sample_dump.LoopType.{LoopType}
use Rattle.messages.specs.declared.sample_dump.LoopType.TheVariants.{Forward, BiDirectional, Off}
use Rattle.messages.specs.declared.sample_dump.LoopNumber.TheVariants.{RequestAll, DeleteAll}
use Rattle.messages.specs.format.Lists.{all_bytes}
use Rattle.messages.specs.format.Tests.{other_length}
use Rattle.messages.specs.Fields.{u7}
use Rattle.messages.specs.Structures.{loop_code}
use Rattle.messages.specs.Layouts.{form}
use Rattle.read_places.specs.Places.{value_at}
use Rattle.read_places.specs.Found.{is_read}
use Rattle.read_places.proofs.Laws.Numbers.{unsigned_at, range_at}
use Rattle.read_places.proofs.Laws.Lists.{bytes_at, bytes_length}
use Rattle.read_places.proofs.Laws.Answers.{none_left, read_if}
use Rattle.read_sample_dump.specs.Loops.{loop_number_of}
use Rattle.read_sample_dump.proofs.Laws.Bytes.{first_same}
use Rattle.messages.proofs.Loops.{one_byte}
use Rattle.read_sample_dump.proofs.Laws.Loops.{loop_type_at, loop_number_at}

-- a loop type from 2 on is 7F
others : {b : ℕ} → 2 ≤ b → (b ≡ 127 → ⊥) → (t : LoopType) → loop_code t ≡ b ∷ [] → ⊥
others h k Forward e = let x = first_same e in omega arith
others h k BiDirectional e = let x = first_same e in omega arith
others h k Off e = k (first_same e)

module _ (f : List ℕ) (s : Seven f) where
  -- ---- headers

  pub header_not : (length f ≡ 16 → least_format ≤ get_or f 2 0 → get_or f 2 0 ≤ most_format → (t : LoopType) → loop_code t ≡ get_or f 15 0 ∷ [] → ⊥)
      → (form head.SampleDumpHeader).read f ≡ none
  header_not k =
      not_some ((form head.SampleDumpHeader).read f)
      λ a e. let w = (form head.SampleDumpHeader).only f a e in
      let b = rw (one_byte a.loop_type) at w.1 in
      let x : get_or f 2 0 ≡ a.format = sym (ap (λ (l : List ℕ). get_or l 2 0) b) in
      let y = ap (λ (l : List ℕ). get_or l 15 0) b in
      k (sym (ap length b)) (rw x w.0.0.1.0.0) (rw x w.0.0.1.0.1) a.loop_type (one_byte a.loop_type ∙ ap (λ (v : ℕ). v ∷ []) y)

  pub header_reads : (t : LoopType) → length f ≡ 16 → least_format ≤ get_or f 2 0 → get_or f 2 0 ≤ most_format → loop_code t ≡ get_or f 15 0 ∷ []
      → (form head.SampleDumpHeader).read f
      ≡ some (record { sample = value_at 2 f 0; format = get_or f 2 0; period = value_at 3 f 3; length = value_at 3 f 6; loop_start = value_at 3 f 9; loop_end = value_at 3 f 12; loop_type = t })
  header_reads t n p q e =
      rw (
        unsigned_at f s 2 0 (omega arith),
        range_at least_format most_format (lit≤ tt) (lit< tt) f 2 (omega arith) p q,
        unsigned_at f s 3 3 (omega arith),
        unsigned_at f s 3 6 (omega arith),
        unsigned_at f s 3 9 (omega arith),
        unsigned_at f s 3 12 (omega arith),
        loop_type_at t f 15 (omega arith) e,
        none_left f 16 n,
      )

  -- whether there is a header, by its loop type
  module _ (n : length f ≡ 16) (p : least_format ≤ get_or f 2 0) (q : get_or f 2 0 ≤ most_format) where
    abbrev header_in : Bool
    header_in = is_read ((form head.SampleDumpHeader).read f)

    header_typed : (t : LoopType) → loop_code t ≡ get_or f 15 0 ∷ [] → true ≡ header_in
    header_typed t e = sym (ap is_read (header_reads t n p q e))

    pub header_low : get_or f 15 0 < 2 → true ≡ header_in
    header_low b =
        ⊎_elim (λ (e : get_or f 15 0 ≡ 1). header_typed BiDirectional (ap (λ (x : ℕ). x ∷ []) (sym e)))
        (λ (l : get_or f 15 0 < 1). header_typed Forward (ap (λ (x : ℕ). x ∷ []) (omega arith)))
        (eq-or-lt_of_le (omega arith))

    pub header_high : 2 ≤ get_or f 15 0 → eqb (get_or f 15 0) 127 ≡ header_in
    header_high b =
        read_if ((form head.SampleDumpHeader).read f) _ (get_or f 15 0) 127 (λ e. header_reads Off n p q (ap (λ (x : ℕ). x ∷ []) (sym e)))
        (λ k. header_not λ n' p' q' t e. others b k t e)

  -- ---- packets

  pub packet_not : (length f ≡ 1 + sample_bytes → ⊥) → (form head.SampleDumpPacket).read f ≡ none
  packet_not k =
      not_some ((form head.SampleDumpPacket).read f)
      λ a e. let w = (form head.SampleDumpPacket).only f a e in
      let n : length f ≡ suc (length (all_bytes u7 a.samples)) = sym (ap length w.1) in
      k (omega (arith, bytes_length a.samples, w.0.0.1.0))

  pub packet_reads : length f ≡ 1 + sample_bytes → (form head.SampleDumpPacket).read f ≡ some (record { count = value_at 1 f 0; samples = take sample_bytes (drop 1 f) })
  packet_reads n = rw (unsigned_at f s 1 0 (omega arith), bytes_at f s sample_bytes 1 (omega arith), none_left f (1 + sample_bytes) n)

  -- ---- requests

  pub request_not : (length f ≡ 2 → ⊥) → (form head.SampleDumpRequest).read f ≡ none
  request_not k = other_length (form head.SampleDumpRequest) 2 (λ a. refl) f k

  pub request_reads : length f ≡ 2 → (form head.SampleDumpRequest).read f ≡ some (value_at 2 f 0)
  request_reads n = rw (unsigned_at f s 2 0 (omega arith), none_left f 2 n)

  -- ---- loop points

  pub loop_points_not : (length f ≡ 11 → (t : LoopType) → loop_code t ≡ get_or f 4 0 ∷ [] → ⊥) → (form head.LoopPointTransmission).read f ≡ none
  loop_points_not k =
      not_some ((form head.LoopPointTransmission).read f)
      λ a e. let w = (form head.LoopPointTransmission).only f a e in
      let b = rw (one_byte a.loop_type) at w.1 in
      let y = ap (λ (l : List ℕ). get_or l 4 0) b in
      k (sym (ap length b)) a.loop_type (one_byte a.loop_type ∙ ap (λ (v : ℕ). v ∷ []) y)

  pub loop_points_reads : (t : LoopType) → length f ≡ 11 → loop_code t ≡ get_or f 4 0 ∷ []
      → (form head.LoopPointTransmission).read f
      ≡ some (record { sample = value_at 2 f 0; loop_number = loop_number_of DeleteAll (value_at 2 f 2); loop_type = t; start = value_at 3 f 5; end = value_at 3 f 8 })
  loop_points_reads t n e =
      rw (
        unsigned_at f s 2 0 (omega arith),
        loop_number_at DeleteAll refl f s 2 (omega arith),
        loop_type_at t f 4 (omega arith) e,
        unsigned_at f s 3 5 (omega arith),
        unsigned_at f s 3 8 (omega arith),
        none_left f 11 n,
      )

  pub loop_request_not : (length f ≡ 4 → ⊥) → (form head.LoopPointsRequest).read f ≡ none
  loop_request_not k = other_length (form head.LoopPointsRequest) 4 (λ a. refl) f k

  pub loop_request_reads : length f ≡ 4
      → (form head.LoopPointsRequest).read f ≡ some (record { sample = value_at 2 f 0; loop_number = loop_number_of RequestAll (value_at 2 f 2) })
  loop_request_reads n = rw (unsigned_at f s 2 0 (omega arith), loop_number_at RequestAll refl f s 2 (omega arith), none_left f 4 n)
