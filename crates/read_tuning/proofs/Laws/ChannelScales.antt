-- What the layouts of 08 08 and 08 09 read of fields: three channel bytes, and twelve signed values.
-- Assumes nothing.
use mathlib.Core.Path.{◌≡◌, refl, sym, ap, ◌∙◌}
use mathlib.Core.Bool.{Bool, true, false}
use mathlib.Core.Option.{none, some}
use mathlib.Core.List.{List, [], ◌∷◌}
use Prim.Native.Nat.{ℕ, suc, ◌<◌, ◌≤◌}
use native.Mathlib.Nat.{add-zero}
use native.Mathlib.Omega.{arith}
use lib.Dec.{ltb, lit<, lit≤}
use lib.ListN.{length, take}
use borrow.Author.Tests.{ltb-true, ltb-false}
use Rattle.std.specs.Prelude.{Option, Some, None}
use Rattle.util.specs.Groups.{Seven, groups_high, value_high}
use Rattle.util.specs.Pick.{pick}
use Rattle.util.specs.Channels.{channels_of}
use Rattle.util.proofs.Laws.Groups.{value_high_groups}
use Rattle.util.proofs.Laws.Options.{not_some}
use Rattle.messages.specs.declared.head.Head.TheVariants as head
use Rattle.messages.specs.format.Lists.{all_bytes}
use Rattle.messages.specs.Fields.{s7, s14}
use Rattle.messages.specs.Layouts.{form}
use Rattle.read_places.specs.Places.{value_at}
use Rattle.read_places.proofs.Laws.Numbers.{high_below_at}
use Rattle.read_places.proofs.Laws.Answers.{none_left}
use Rattle.read_tuning.specs.Scales.{scale_1_at, scale_2_at}
use Rattle.read_tuning.proofs.Laws.Scales.{s7_size, s14_size, scale_1_reads, scale_2_reads}

-- ---- the set of three bytes

set_by : (x v : ℕ) (t : Bool) → ltb x 65536 ≡ t → pick t (Some x) None ≡ Some v → (x < 65536) × (x ≡ v)
set_by x v true e h = let y : x ≡ v = cc in (ltb-true x 65536 e, y)
set_by x v false e h = absurd (let z : ◌≡◌ {A = ℕ} 0 1 = cc in omega arith)

spare_by : (x : ℕ) (t : Bool) → ltb x 65536 ≡ t → pick t (Some x) None ≡ None → 65536 ≤ x
spare_by x true e h = absurd (let z : ◌≡◌ {A = ℕ} 0 1 = cc in omega arith)
spare_by x false e h = ltb-false x 65536 e

-- the first three bytes
three : (f : List ℕ) → 3 ≤ length f → take 3 f ≡ value_at 1 f 0 ∷ value_at 1 f 1 ∷ value_at 1 f 2 ∷ []
three [] h = absurd (omega arith)
three (a ∷ []) h = absurd (omega arith)
three (a ∷ b ∷ []) h = absurd (omega arith)
three (a ∷ b ∷ c ∷ l) h = λ i. sym (add-zero a) i ∷ sym (add-zero b) i ∷ sym (add-zero c) i ∷ []

abbrev set_at : List ℕ → Option ℕ
set_at f = channels_of (value_at 1 f 0) (value_at 1 f 1) (value_at 1 f 2)

set_is : (f : List ℕ) (v : ℕ) → 3 ≤ length f → set_at f ≡ Some v → (value_high (take 3 f) < 65536) × (value_high (take 3 f) ≡ v)
set_is f v h e = rw (three f h) (set_by (value_high (value_at 1 f 0 ∷ value_at 1 f 1 ∷ value_at 1 f 2 ∷ [])) v _ refl e)

spare_is : (f : List ℕ) → 3 ≤ length f → set_at f ≡ None → 65536 ≤ value_high (take 3 f)
spare_is f h e = rw (three f h) (spare_by (value_high (value_at 1 f 0 ∷ value_at 1 f 1 ∷ value_at 1 f 2 ∷ [])) _ refl e)

module _ (f : List ℕ) (s : Seven f) where
  -- ---- signed values of one group

  pub scale_1_size : (length f ≡ 15 → ⊥) → (form head.ScaleTuning1Byte).read f ≡ none
  scale_1_size k =
      not_some ((form head.ScaleTuning1Byte).read f)
      λ a e. let w = (form head.ScaleTuning1Byte).only f a e in
      let n : length f ≡ suc (suc (suc (length (all_bytes s7 a.scale)))) = sym (ap length w.1) in
      k (omega (arith, n, s7_size a.scale, w.0.0.1.0))

  pub scale_1_read : (v : ℕ) → length f ≡ 15 → set_at f ≡ Some v → (form head.ScaleTuning1Byte).read f ≡ some (record { channels = v; scale = scale_1_at f 3 })
  scale_1_read v n e =
      let w = set_is f v (omega arith) e in
      rw (
        high_below_at f s 3 65536 0 (lit< tt) (lit≤ tt) (omega arith) w.0,
        scale_1_reads f s 3 (omega arith),
        none_left f 15 n,
        w.1,
      )

  pub scale_1_spare : length f ≡ 15 → set_at f ≡ None → (form head.ScaleTuning1Byte).read f ≡ none
  scale_1_spare n e =
      not_some ((form head.ScaleTuning1Byte).read f)
      λ a d. let w = (form head.ScaleTuning1Byte).only f a d in
      let x : take 3 f ≡ groups_high 3 a.channels = sym (ap (take 3) w.1) in
      let y = ap value_high x ∙ value_high_groups 3 a.channels (omega (arith, w.0.0.0)) in
      omega (arith, spare_is f (omega arith) e, w.0.0.0)

  -- ---- signed values of two groups

  pub scale_2_size : (length f ≡ 27 → ⊥) → (form head.ScaleTuning2Byte).read f ≡ none
  scale_2_size k =
      not_some ((form head.ScaleTuning2Byte).read f)
      λ a e. let w = (form head.ScaleTuning2Byte).only f a e in
      let n : length f ≡ suc (suc (suc (length (all_bytes s14 a.scale)))) = sym (ap length w.1) in
      k (omega (arith, n, s14_size a.scale, w.0.0.1.0))

  pub scale_2_read : (v : ℕ) → length f ≡ 27 → set_at f ≡ Some v → (form head.ScaleTuning2Byte).read f ≡ some (record { channels = v; scale = scale_2_at f 3 })
  scale_2_read v n e =
      let w = set_is f v (omega arith) e in
      rw (
        high_below_at f s 3 65536 0 (lit< tt) (lit≤ tt) (omega arith) w.0,
        scale_2_reads f s 3 (omega arith),
        none_left f 27 n,
        w.1,
      )

  pub scale_2_spare : length f ≡ 27 → set_at f ≡ None → (form head.ScaleTuning2Byte).read f ≡ none
  scale_2_spare n e =
      not_some ((form head.ScaleTuning2Byte).read f)
      λ a d. let w = (form head.ScaleTuning2Byte).only f a d in
      let x : take 3 f ≡ groups_high 3 a.channels = sym (ap (take 3) w.1) in
      let y = ap value_high x ∙ value_high_groups 3 a.channels (omega (arith, w.0.0.0)) in
      omega (arith, spare_is f (omega arith) e, w.0.0.0)
