-- What the fields of a frame say, under an opening.
-- Assumes nothing.
use mathlib.Core.Path.{◌≡◌, refl, sym, ap, ap₂, subst, ◌∙◌}
use mathlib.Core.Bool.{Bool, true, false}
use mathlib.Core.Option.{Option, none, some}
use mathlib.Core.List.{List, [], ◌∷◌}
use Prim.Native.Nat.{ℕ, suc, ◌+◌, ◌-◌, ◌≤◌}
use native.Mathlib.Omega.{arith}
use lib.Dec.{eqb}
use lib.ListN.{length, take, drop, get_or, length-take, length-drop}
use lib.Seq.{length-take-le}
use Rattle.std.specs.Prelude.{Some, None, Result, Ok}
use Rattle.util.specs.Pick.{pick}
use Rattle.util.specs.Groups.{Seven}
use Rattle.util.proofs.Laws.Groups.{seven_take, seven_drop}
use Rattle.util.specs.declared.refusal.Refusal.{Refusal}
use Rattle.util.specs.declared.refusal.Refusal.TheVariants as R
use Rattle.messages.specs.declared.head.Head.{Head}
use Rattle.messages.specs.declared.system_exclusive.DeviceID.{DeviceID}
use Rattle.messages.specs.Fields.{device_of}
use Rattle.messages.specs.Layouts.{Fields, form, code, text_at}
use Rattle.messages.specs.Messages.{Message, make, refused, given, plain_answer, sum_answer, text, text_start}
use Rattle.messages.specs.MessageOf.{head_of, message_of}
use Rattle.messages.specs.Walk.{is_given}
use Rattle.messages.proofs.Exact.{refused_given}
use Rattle.read_places.specs.declared.Found.{Found}
use Rattle.read_places.specs.Found.{Reads, data_of, entries_of, text_from, found_of, is_read}
use Rattle.reader.specs.declared.opening.Opening.{Opening}
use Rattle.reader.specs.declared.lent.Reading.{Reading}
use Rattle.reader.specs.Opening.{inner, device_at, fields_in, opens_as, placed}
use Rattle.reader.specs.Reading.{Tells, ReadMet}
use Rattle.reader.specs.Filled.{Filled}
use Rattle.reader.proofs.Laws.Sums.{sum_true}
use Rattle.reader.proofs.Laws.Texts.{text_said}
use Rattle.reader.proofs.Laws.Met.{fields_part, text_part, told, read_met}

-- what a layout reads is of its head
head_read : (d : DeviceID) (h : Head) (o : Option (Fields h)) {m : Message} → given m ≡ plain_answer d h o → m.head ≡ h
head_read d h none e = absurd (refused_given (sym e))
head_read d h (some x) {m} e = let z : m ≡ make d h x = cc in ap (λ (y : Message). y.head) z

module _ (d : DeviceID) (h : Head) (f : List ℕ) where
  -- fields that are a message, with the right checksum
  pub is_right : {r : Found} → Reads h (Some r) f → found_of d (Some r) f ≡ sum_answer d h true ((form h).read f)
  is_right w = w.says d ∙ sum_true d h ((form h).read f)

  wrong : (o : Option (Fields h)) {m : Message} → given m ≡ plain_answer d h o → refused R.Sum ≡ sum_answer d h false o
  wrong none e = absurd (refused_given (sym e))
  wrong (some x) e = refl

  -- and with another
  pub is_wrong : {r : Found} → Reads h (Some r) f → refused R.Sum ≡ sum_answer d h false ((form h).read f)
  is_wrong w = wrong ((form h).read f) (w.says d)

  none_either : (t : Bool) (o : Option (Fields h)) → refused R.Field ≡ plain_answer d h o → refused R.Field ≡ sum_answer d h t o
  none_either t none e = refl
  none_either t (some x) e = absurd (refused_given e)

  -- fields that are none
  pub is_none : (t : Bool) → Reads h None f → refused R.Field ≡ sum_answer d h t ((form h).read f)
  is_none t w = none_either t ((form h).read f) (w.says d)

-- ---- a frame's fields, where its opening has them

inner_second : (l : List ℕ) → 2 ≤ length (inner l) → get_or l 2 0 ≡ get_or (inner l) 1 0
inner_second [] h = absurd (omega (arith, length-take {A = ℕ} (length {A = ℕ} [] - 1 - 1) (drop 1 [])))
inner_second (x ∷ []) h = absurd (omega (arith, length-take (length (x ∷ []) - 1 - 1) (drop 1 (x ∷ []))))
inner_second (x ∷ y ∷ []) h = absurd (omega (arith, length-take (length (x ∷ y ∷ []) - 1 - 1) (drop 1 (x ∷ y ∷ []))))
inner_second (x ∷ y ∷ z ∷ []) h = absurd (omega (arith, length-take (length (x ∷ y ∷ z ∷ []) - 1 - 1) (drop 1 (x ∷ y ∷ z ∷ []))))
inner_second (x ∷ y ∷ z ∷ w ∷ r) h = let e : length (x ∷ y ∷ z ∷ w ∷ r) - 1 - 1 ≡ suc (suc (length r)) = omega arith in rw e

module _ (frame : List ℕ) (o : Opening) (p : placed (Ok o) (inner frame)) where
  abbrev F : List ℕ
  F = fields_in (inner frame) o.start o.end

  -- as they are lent
  abbrev pub lent_fields : List ℕ
  lent_fields = take ((1 + o.end) - (1 + o.start)) (drop (1 + o.start) frame)

  abbrev D : DeviceID
  D = device_at (inner frame)

  pub same_fields : F ≡ lent_fields
  same_fields = fields_part frame o.start o.end p.2 p.3

  pub inner_length : length (inner frame) ≤ length frame - 1 - 1
  inner_length = omega (arith, length-take (length frame - 1 - 1) (drop 1 frame))

  pub long_enough : 1 + o.end ≤ length frame
  long_enough = omega (arith, p.1, p.2, p.3, inner_length)

  pub fields_seven : Seven lent_fields
  fields_seven = subst (λ (x : List ℕ). Seven x) same_fields (seven_take (o.end - o.start) (drop o.start (inner frame)) (seven_drop o.start (inner frame) p.0))

  pub device_is : {d : DeviceID} → d ≡ device_of (get_or frame 2 0) → d ≡ D
  device_is e = e ∙ ap device_of (inner_second frame (omega (arith, p.1, p.2, p.3)))

  module _ {z : Found} (w : Reads o.h (Some z) lent_fields) where
    reads_in : Reads o.h (Some z) F
    reads_in = subst (λ (l : List ℕ). Reads o.h (Some z) l) (sym same_fields) w

    right_says : {d : DeviceID} → d ≡ device_of (get_or frame 2 0) → o.sum ≡ true
        → found_of d (Some z) F ≡ opens_as (Ok o) (inner frame)
    right_says e t =
        ap (λ (x : DeviceID). found_of x (Some z) F) (device_is e) ∙ is_right D o.h F reads_in
        ∙ ap (λ (u : Bool). sum_answer D o.h u ((form o.h).read F)) (sym t)

    pub wrong_says : o.sum ≡ false → refused R.Sum ≡ opens_as (Ok o) (inner frame)
    wrong_says t = is_wrong D o.h F reads_in ∙ ap (λ (u : Bool). sum_answer D o.h u ((form o.h).read F)) (sym t)

    pub fields_in_frame : z.from + z.len ≤ o.end - o.start
    fields_in_frame = omega (arith, w.part.0, length-take ((1 + o.end) - (1 + o.start)) (drop (1 + o.start) frame))

    pub begins_within : 1 + o.start + z.from ≤ length frame
    begins_within = omega (arith, long_enough, fields_in_frame, p.2)

    -- the reading of a device whose text begins at b
    abbrev pub reading : DeviceID → ℕ → Reading
    reading d b = record { device = d; m = z.m; from = b; len = z.len; places = z.count }

    -- where the text begins in the frame
    abbrev pub begin : ℕ
    begin = pick (eqb z.from 0) 0 (1 + o.start + z.from)

    -- the text, as a part of the fields
    abbrev part : List ℕ
    part = take z.len (drop z.from lent_fields)

    abbrev M : DeviceID → Message
    M d = message_of d z.m (text_from z.m part (data_of z.m lent_fields z.at)) (entries_of z.m lent_fields z.at z.count)

    same_head : head_of z.m ≡ o.h
    same_head = head_read D o.h ((form o.h).read lent_fields) (w.says D)

    no_text : pick (eqb z.from 0) z.len 0 ≡ 0
    no_text = ap (λ (k : ℕ). pick (eqb k 0) z.len 0) w.start.0 ∙ w.start.1

    part_by : (t : Bool) → pick t z.len 0 ≡ 0 → take z.len (drop (pick t 0 (1 + o.start + z.from)) frame) ≡ part
    part_by true e = rw e
    part_by false e = sym (text_part frame o.start o.end z.from z.len fields_in_frame)

    part_length : length part ≡ z.len
    part_length = length-take-le z.len (drop z.from lent_fields) (omega (arith, w.part.0, length-drop z.from lent_fields))

    long_by : (t : Bool) → pick t z.len 0 ≡ 0 → z.len ≡ length (pick t [] part)
    long_by true e = e
    long_by false e = sym part_length

    starts : (d : DeviceID) → begin ≡ text_start (M d)
    starts d =
        ap₂ (λ (k j : ℕ). pick (eqb k 0) 0 j) w.start.0 (omega (arith, p.1, w.start.0))
        ∙ ap (λ (g : Head). pick (eqb (text_at g) 0) 0 (3 + length (code g) + text_at g)) (sym same_head)

    long : (d : DeviceID) → z.len ≡ length (text (M d))
    long d =
        long_by (eqb (text_at o.h) 0) w.start.1
        ∙ ap (λ (g : Head). length (pick (eqb (text_at g) 0) [] part)) (sym same_head)
        ∙ ap length (sym (text_said d part (data_of z.m lent_fields z.at) (entries_of z.m lent_fields z.at z.count) z.m))

    says_given : {d : DeviceID} → d ≡ device_of (get_or frame 2 0) → o.sum ≡ true → given (M d) ≡ opens_as (Ok o) (inner frame)
    says_given {d} e t = ap (found_of d (Some z)) (sym same_fields) ∙ right_says e t

    pub told_right : (d : DeviceID) (b : ℕ) → d ≡ device_of (get_or frame 2 0) → o.sum ≡ true → b ≡ begin
        → Tells (Ok (reading d b)) (opens_as (Ok o) (inner frame)) frame
    told_right d b e t q =
        subst (λ (k : ℕ). Tells (Ok (reading d k)) (opens_as (Ok o) (inner frame)) frame) (sym q)
        (told (reading d begin) z.at frame lent_fields part fields_seven w.part.3 (part_by (eqb z.from 0) no_text) (starts d) (long d) _ (says_given e t))

    pub read_right : (r : Result Reading Refusal) (d : DeviceID) (b : ℕ) → d ≡ device_of (get_or frame 2 0) → o.sum ≡ true → b ≡ begin → (dat dat' es es' : List ℕ)
        → Filled r (reading d b) z.at lent_fields dat dat' es es'
        → ReadMet r (opens_as (Ok o) (inner frame)) frame dat dat' es es'
    read_right r d b e t q dat dat' es es' g =
        read_met (reading d begin) z.at frame lent_fields part fields_seven w.part.3 (part_by (eqb z.from 0) no_text) (starts d) (long d) r _ dat dat' es es' (says_given e t)
        (subst (λ (k : ℕ). Filled r (reading d k) z.at lent_fields dat dat' es es') q g)

  pub none_says : Reads o.h None lent_fields → refused R.Field ≡ opens_as (Ok o) (inner frame)
  none_says w = is_none D o.h F o.sum (subst (λ (l : List ℕ). Reads o.h None l) (sym same_fields) w)

-- whether there is a message, by whether the layout reads the fields
pub given_right : (d : DeviceID) (h : Head) (o : Option (Fields h)) → is_read o ≡ is_given (sum_answer d h true o)
given_right d h none = refl
given_right d h (some x) = refl

pub given_wrong : (d : DeviceID) (h : Head) (o : Option (Fields h)) → false ≡ is_given (sum_answer d h false o)
given_wrong d h none = refl
given_wrong d h (some x) = refl
