-- The layouts of extended sample dumps by place: what they read, and where they read nothing.
-- Assumes nothing.
use mathlib.Core.Path.{◌≡◌, refl, sym, ap, ◌∙◌}
use mathlib.Core.Option.{none, some}
use mathlib.Core.List.{List, [], ◌∷◌}
use Prim.Native.Nat.{ℕ, suc, ◌+◌, ◌≤◌}
use native.Mathlib.Omega.{arith}
use lib.Dec.{lit<, lit≤}
use lib.ListN.{length, take, drop, get_or}
use lib.Seq.{drop-cons}
use borrow.Author.Tests.{lt-ltb}
use Rattle.util.specs.Limits.{least_format, most_format}
use Rattle.util.specs.Groups.{Seven}
use Rattle.util.proofs.Laws.Options.{not_some}
use Rattle.messages.specs.declared.head.Head.TheVariants as head
use Rattle.messages.specs.declared.sample_dump.ExtendedLoopType.{ExtendedLoopType}
use Rattle.messages.specs.declared.sample_dump.LoopNumber.TheVariants.{RequestAll, DeleteAll}
use Rattle.messages.specs.format.Lists.{all_bytes}
use Rattle.messages.specs.format.Tests.{other_length}
use Rattle.messages.specs.Fields.{u7}
use Rattle.messages.specs.Structures.{extended_loop_code}
use Rattle.messages.specs.Layouts.{form}
use Rattle.read_places.specs.Places.{value_at}
use Rattle.read_places.proofs.Laws.Numbers.{unsigned_at, range_at, seven_get}
use Rattle.read_places.proofs.Laws.Lists.{bytes_at, bytes_length}
use Rattle.read_places.proofs.Laws.Answers.{none_left}
use Rattle.read_sample_dump.specs.Loops.{loop_number_of}
use Rattle.messages.proofs.Loops.{extended_one_byte}
use Rattle.read_sample_dump.proofs.Laws.Loops.{extended_loop_type_at, loop_number_at}

module _ (f : List ℕ) (s : Seven f) where
  -- ---- names

  pub name_not : (4 ≤ length f → get_or f 2 0 ≡ 0 → length f ≡ 4 + get_or f 3 0 → ⊥) → (form head.SampleName).read f ≡ none
  name_not k =
      not_some ((form head.SampleName).read f)
      λ a e. let w = ((form head.SampleName).only f a e).1 in
      let n : length f ≡ suc (suc (suc (suc (length (all_bytes u7 a.name))))) = sym (ap length w) in
      let x : get_or f 3 0 ≡ length a.name = sym (ap (λ (l : List ℕ). get_or l 3 0) w) in
      let c = bytes_length a.name in
      k (omega arith) (sym (ap (λ (l : List ℕ). get_or l 2 0) w)) (omega arith)

  pub name_reads : 4 ≤ length f → get_or f 2 0 ≡ 0 → length f ≡ 4 + get_or f 3 0
      → (form head.SampleName).read f ≡ some (record { sample = value_at 2 f 0; name = take (get_or f 3 0) (drop 4 f) })
  name_reads m z n =
      rw (
        unsigned_at f s 2 0 (omega arith),
        drop-cons f 2 0 (omega arith),
        z,
        drop-cons f 3 0 (omega arith),
        lt-ltb _ _ (seven_get f 3 s),
        bytes_at f s (get_or f 3 0) 4 (omega arith),
        none_left f (4 + get_or f 3 0) n,
      )

  pub name_request_not : (length f ≡ 2 → ⊥) → (form head.SampleNameRequest).read f ≡ none
  name_request_not k = other_length (form head.SampleNameRequest) 2 (λ a. refl) f k

  pub name_request_reads : length f ≡ 2 → (form head.SampleNameRequest).read f ≡ some (value_at 2 f 0)
  name_request_reads n = rw (unsigned_at f s 2 0 (omega arith), none_left f 2 n)

  -- ---- headers

  pub header_not : (length f ≡ 28 → least_format ≤ get_or f 2 0 → get_or f 2 0 ≤ most_format → (t : ExtendedLoopType) → extended_loop_code t ≡ get_or f 26 0 ∷ [] → ⊥)
      → (form head.ExtendedHeader).read f ≡ none
  header_not k =
      not_some ((form head.ExtendedHeader).read f)
      λ a e. let w = (form head.ExtendedHeader).only f a e in
      let b = rw (extended_one_byte a.loop_type) at w.1 in
      let x : get_or f 2 0 ≡ a.format = sym (ap (λ (l : List ℕ). get_or l 2 0) b) in
      let y = ap (λ (l : List ℕ). get_or l 26 0) b in
      k (sym (ap length b)) (rw x w.0.0.1.0.0) (rw x w.0.0.1.0.1) a.loop_type (extended_one_byte a.loop_type ∙ ap (λ (v : ℕ). v ∷ []) y)

  pub header_reads : (t : ExtendedLoopType) → length f ≡ 28 → least_format ≤ get_or f 2 0 → get_or f 2 0 ≤ most_format → extended_loop_code t ≡ get_or f 26 0 ∷ []
      → (form head.ExtendedHeader).read f
      ≡ some (record { sample = value_at 2 f 0; format = get_or f 2 0; rate_whole = value_at 4 f 3; rate_fraction = value_at 4 f 7; length = value_at 5 f 11; loop_start = value_at 5 f 16; loop_end = value_at 5 f 21; loop_type = t; channels = value_at 1 f 27 })
  header_reads t n p q e =
      rw (
        unsigned_at f s 2 0 (omega arith),
        range_at least_format most_format (lit≤ tt) (lit< tt) f 2 (omega arith) p q,
        unsigned_at f s 4 3 (omega arith),
        unsigned_at f s 4 7 (omega arith),
        unsigned_at f s 5 11 (omega arith),
        unsigned_at f s 5 16 (omega arith),
        unsigned_at f s 5 21 (omega arith),
        extended_loop_type_at t f 26 (omega arith) e,
        unsigned_at f s 1 27 (omega arith),
        none_left f 28 n,
      )

  -- ---- loop points

  pub loop_points_not : (length f ≡ 15 → (t : ExtendedLoopType) → extended_loop_code t ≡ get_or f 4 0 ∷ [] → ⊥)
      → (form head.ExtendedLoopPointTransmission).read f ≡ none
  loop_points_not k =
      not_some ((form head.ExtendedLoopPointTransmission).read f)
      λ a e. let w = (form head.ExtendedLoopPointTransmission).only f a e in
      let b = rw (extended_one_byte a.loop_type) at w.1 in
      let y = ap (λ (l : List ℕ). get_or l 4 0) b in
      k (sym (ap length b)) a.loop_type (extended_one_byte a.loop_type ∙ ap (λ (v : ℕ). v ∷ []) y)

  pub loop_points_reads : (t : ExtendedLoopType) → length f ≡ 15 → extended_loop_code t ≡ get_or f 4 0 ∷ []
      → (form head.ExtendedLoopPointTransmission).read f
      ≡ some (record { sample = value_at 2 f 0; loop_number = loop_number_of DeleteAll (value_at 2 f 2); loop_type = t; start = value_at 5 f 5; end = value_at 5 f 10 })
  loop_points_reads t n e =
      rw (
        unsigned_at f s 2 0 (omega arith),
        loop_number_at DeleteAll refl f s 2 (omega arith),
        extended_loop_type_at t f 4 (omega arith) e,
        unsigned_at f s 5 5 (omega arith),
        unsigned_at f s 5 10 (omega arith),
        none_left f 15 n,
      )

  pub loop_request_not : (length f ≡ 4 → ⊥) → (form head.ExtendedLoopPointsRequest).read f ≡ none
  loop_request_not k = other_length (form head.ExtendedLoopPointsRequest) 4 (λ a. refl) f k

  pub loop_request_reads : length f ≡ 4
      → (form head.ExtendedLoopPointsRequest).read f ≡ some (record { sample = value_at 2 f 0; loop_number = loop_number_of RequestAll (value_at 2 f 2) })
  loop_request_reads n = rw (unsigned_at f s 2 0 (omega arith), loop_number_at RequestAll refl f s 2 (omega arith), none_left f 4 n)
