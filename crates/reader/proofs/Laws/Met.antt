-- The numbers of an answer, with the frame and what lent space holds, say the message, and are those that the message has.
-- Assumes nothing.
use mathlib.Core.Path.{◌≡◌, refl, sym, ap, ap₂, subst, ◌∙◌}
use mathlib.Core.Bool.{Bool, true, false, ◌&&◌}
use mathlib.Core.List.{List, [], ◌∷◌}
use Prim.Native.Nat.{ℕ, zero, suc, ◌+◌, ◌-◌, ◌≤◌, ◌<◌}
use native.Mathlib.Omega.{arith}
use lib.Dec.{leb}
use lib.ListN.{length, take, drop, length-take}
use lib.Seq.{take-take, take_all, drop-drop, take_at}
use borrow.Author.Tests.{le-leb, lt-leb}
use Rattle.std.specs.Prelude.{Result, Ok, Err}
use Rattle.util.specs.Groups.{Seven}
use Rattle.util.specs.Pick.{pick}
use Rattle.util.specs.Splice.{overwritten}
use Rattle.util.specs.declared.refusal.Refusal.{Refusal}
use Rattle.util.specs.declared.refusal.Refusal.TheVariants.{Hold}
use Rattle.messages.specs.declared.system_exclusive.UniversalNonRealTimeMsg.{UniversalNonRealTimeMsg}
use Rattle.messages.specs.Layouts.{Fields}
use Rattle.messages.specs.Messages.{Message, make, Answer, refused, given, text, text_start, file_data, entries, places, holding, held_unless}
use Rattle.messages.specs.MessageOf.{message_of, head_of, fields_of}
use Rattle.read_places.specs.Places.{data_at}
use Rattle.read_places.specs.Found.{data_of, entries_of, text_from}
use Rattle.reader.specs.declared.lent.Reading.{Reading}
use Rattle.reader.specs.Opening.{inner, fields_in}
use Rattle.reader.specs.Reading.{said, text_and_places, text_and_places_of, Tells, data_after, entries_after, ReadMet, has_data}
use Rattle.reader.specs.Filled.{enough, Filled}
use Rattle.reader.proofs.Laws.Apart.{data_is_at, no_entries, no_data, text_is_part, entries_free}
use Rattle.reader.proofs.Laws.Lent.{lent_entries, lent_data}

-- ---- a part of a part

take_none : (n : ℕ) → ◌≡◌ {A = List ℕ} (take n []) []
take_none zero = refl
take_none (suc n) = refl

drop_of_take : (i k : ℕ) (l : List ℕ) → drop i (take k l) ≡ take (k - i) (drop i l)
drop_of_take zero k l = let e : k - 0 ≡ k = omega arith in rw e
drop_of_take (suc i) zero l = let e : 0 - suc i ≡ 0 = omega arith in rw e
drop_of_take (suc i) (suc k) [] = let e : suc k - suc i ≡ k - i = omega arith in rw e (sym (take_none (k - i)))
drop_of_take (suc i) (suc k) (x ∷ l) = let e : suc k - suc i ≡ k - i = omega arith in rw e (drop_of_take i k l)

pub part_of : (i n k : ℕ) (l : List ℕ) → i + n ≤ k → take n (drop i (take k l)) ≡ take n (drop i l)
part_of i n k l h = ap (take n) (drop_of_take i k l) ∙ take-take n (k - i) (drop i l) (omega arith)

-- the fields, as a part of the frame
pub fields_part : (frame : List ℕ) (start end : ℕ) → start ≤ end → end ≤ length (inner frame)
    → fields_in (inner frame) start end ≡ take ((1 + end) - (1 + start)) (drop (1 + start) frame)
fields_part frame start end h g =
    let n : length (inner frame) ≤ length frame - 1 - 1 = omega (arith, length-take (length frame - 1 - 1) (drop 1 frame)) in
    let e : end - start ≡ (1 + end) - (1 + start) = omega arith in
    part_of start (end - start) (length frame - 1 - 1) (drop 1 frame) (omega arith)
    ∙ ap (take (end - start)) (drop-drop start 1 frame) ∙ ap (λ (k : ℕ). take k (drop (1 + start) frame)) e

-- the text, as a part of the frame
pub text_part : (frame : List ℕ) (start end from len : ℕ) → from + len ≤ end - start
    → take len (drop from (take ((1 + end) - (1 + start)) (drop (1 + start) frame))) ≡ take len (drop (1 + start + from) frame)
text_part frame start end from len h =
    part_of from len ((1 + end) - (1 + start)) (drop (1 + start) frame) (omega arith) ∙ ap (take len) (drop-drop from (1 + start) frame)

-- ---- lent space filled

front_take : (d l : List ℕ) (n : ℕ) → length d ≡ n → take n (overwritten d l) ≡ d
front_take d l n e = take_at d (drop (length d) l) n e

module _ (m : UniversalNonRealTimeMsg) (f : List ℕ) (i n : ℕ) (size : length (data_of m f i) + length (entries_of m f i n) ≡ n) where
  data_size : has_data m ≡ true → length (data_of m f i) ≡ n
  data_size h = omega (arith, size, ap length (no_entries m f i n h))

  entries_size : has_data m ≡ false → length (entries_of m f i n) ≡ n
  entries_size h = omega (arith, size, ap length (no_data m f i h))

  -- the file data as it is put
  pub data_at_size : has_data m ≡ true → length (data_at f i) ≡ n
  data_at_size h = ap length (sym (data_is_at m f i h)) ∙ data_size h

  said_by : (b : Bool) → has_data m ≡ b → (part dat es : List ℕ)
      → fields_of m (text_from m part (take n (overwritten (data_of m f i) dat))) (take n (overwritten (entries_of m f i n) es))
      ≡ fields_of m (text_from m part (data_of m f i)) (entries_of m f i n)
  said_by true h part dat es =
      ap (λ (t : List ℕ). fields_of m (text_from m part t) (take n (overwritten (entries_of m f i n) es))) (front_take (data_of m f i) dat n (data_size h))
      ∙ entries_free m (text_from m part (data_of m f i)) (take n (overwritten (entries_of m f i n) es)) (entries_of m f i n) h
  said_by false h part dat es =
      ap (λ (t : List ℕ). fields_of m t (take n (overwritten (entries_of m f i n) es))) (text_is_part m part (take n (overwritten (data_of m f i) dat)) (data_of m f i) h)
      ∙ ap (fields_of m (text_from m part (data_of m f i))) (front_take (entries_of m f i n) es n (entries_size h))

  fields_said : (part dat es : List ℕ)
      → fields_of m (text_from m part (take n (overwritten (data_of m f i) dat))) (take n (overwritten (entries_of m f i n) es))
      ≡ fields_of m (text_from m part (data_of m f i)) (entries_of m f i n)
  fields_said part dat es = said_by (has_data m) refl part dat es

-- ---- what `fill` answers

module _ (x : Reading) (f : List ℕ) (i : ℕ) (size : length (data_of x.m f i) + length (entries_of x.m f i x.places) ≡ x.places) (dat es : List ℕ) where
  filled_as : (b : Bool) → enough x.m f i x.places dat es ≡ b → (r : Result Reading Refusal) (dat' es' : List ℕ)
      → r ≡ pick b (Ok x) (Err Hold)
      → dat' ≡ pick b (overwritten (data_of x.m f i) dat) dat → es' ≡ pick b (overwritten (entries_of x.m f i x.places) es) es
      → Filled r x i f dat dat' es es'
  filled_as b e r dat' es' p q s =
      record {
        says = p ∙ ap (λ (t : Bool). pick t (Ok x) (Err Hold)) (sym e);
        data_is = q ∙ ap (λ (t : Bool). pick t (overwritten (data_of x.m f i) dat) dat) (sym e);
        entries_are = s ∙ ap (λ (t : Bool). pick t (overwritten (entries_of x.m f i x.places) es) es) (sym e);
      }

  -- too few places for file data
  pub short_data : has_data x.m ≡ true → length dat < x.places → Filled (Err Hold) x i f dat dat es es
  short_data h l =
      filled_as false (rw (lt-leb (length (data_of x.m f i)) (length dat) (omega (arith, data_size x.m f i x.places size h)))) (Err Hold) dat es refl refl refl

  -- too few places for entries
  pub short_entries : has_data x.m ≡ false → length es < x.places → Filled (Err Hold) x i f dat dat es es
  short_entries h l =
      filled_as false
      (rw (
        le-leb (length (data_of x.m f i)) (length dat) (omega (arith, ap length (no_data x.m f i h))),
        lt-leb (length (entries_of x.m f i x.places)) (length es) (omega (arith, entries_size x.m f i x.places size h)),
      ))
      (Err Hold) dat es refl refl refl

  -- file data put
  pub data_put : has_data x.m ≡ true → x.places ≤ length dat → (dat' : List ℕ) → dat' ≡ overwritten (data_of x.m f i) dat → Filled (Ok x) x i f dat dat' es es
  data_put h l dat' e =
      filled_as true
      (rw (
        le-leb (length (data_of x.m f i)) (length dat) (omega (arith, data_size x.m f i x.places size h)),
        le-leb (length (entries_of x.m f i x.places)) (length es) (omega (arith, ap length (no_entries x.m f i x.places h))),
      ))
      (Ok x) dat' es refl e (ap (λ (l : List ℕ). overwritten l es) (sym (no_entries x.m f i x.places h)))

  -- entries put
  pub entries_put : has_data x.m ≡ false → x.places ≤ length es → (es' : List ℕ) → es' ≡ overwritten (entries_of x.m f i x.places) es → Filled (Ok x) x i f dat dat es es'
  entries_put h l es' e =
      filled_as true
      (rw (
        le-leb (length (data_of x.m f i)) (length dat) (omega (arith, ap length (no_data x.m f i h))),
        le-leb (length (entries_of x.m f i x.places)) (length es) (omega (arith, entries_size x.m f i x.places size h)),
      ))
      (Ok x) dat es' refl (ap (λ (l : List ℕ). overwritten l dat) (sym (no_data x.m f i h))) e

-- ---- the whole: what the fields say is the message that is read, and lent space has its file data and entries

module _ (x : Reading) (i : ℕ) (frame f part : List ℕ) (s : Seven f)
    (size : length (data_of x.m f i) + length (entries_of x.m f i x.places) ≡ x.places) (p : take x.len (drop x.from frame) ≡ part) where
  abbrev M : Message
  M = message_of x.device x.m (text_from x.m part (data_of x.m f i)) (entries_of x.m f i x.places)

  own_data : file_data M ≡ data_of x.m f i
  own_data = lent_data x.m f i part (entries_of x.m f i x.places)

  own_entries : entries M ≡ entries_of x.m f i x.places
  own_entries = lent_entries f s i x.places x.m (text_from x.m part (data_of x.m f i))

  module _ (starts : x.from ≡ text_start M) (long : x.len ≡ length (text M)) where
    numbers_same : x.from ∷ x.len ∷ x.places ∷ [] ≡ text_and_places_of (given M)
    numbers_same =
        let e : x.places ≡ places M = omega (arith, size, ap length own_data, ap length own_entries) in
        ap₂ (λ (a b : ℕ). a ∷ b ∷ x.places ∷ []) starts long ∙ ap (λ (c : ℕ). text_start M ∷ length (text M) ∷ c ∷ []) e

    -- with no lent space
    pub told : (a : Answer Message) → given M ≡ a → Tells (Ok x) a frame
    told a e =
        subst (λ (a : Answer Message). Tells (Ok x) a frame) e
        (record {
          says = ap₂ (λ (u v : List ℕ). given (message_of x.device x.m (text_from x.m (take x.len (drop x.from frame)) (take x.places u)) (take x.places v))) own_data own_entries
              ∙ ap₂ (λ (u v : List ℕ). given (message_of x.device x.m (text_from x.m (take x.len (drop x.from frame)) u) v))
              (take_all x.places (data_of x.m f i) (omega (arith, size))) (take_all x.places (entries_of x.m f i x.places) (omega (arith, size)))
              ∙ ap (λ (u : List ℕ). given (message_of x.device x.m (text_from x.m u (data_of x.m f i)) (entries_of x.m f i x.places))) p;
          numbers_are = numbers_same;
        })

    module _ (r : Result Reading Refusal) where
      abbrev held : Bool → Answer Message
      held t = held_unless t M

      holds_as : (dat es : List ℕ) → held (enough x.m f i x.places dat es) ≡ holding (length dat) (length es) (given M)
      holds_as dat es = ap₂ (λ (u v : List ℕ). held_unless (leb (length u) (length dat) && leb (length v) (length es)) M) (sym own_data) (sym own_entries)

      abbrev Meets : Answer Message → List ℕ → List ℕ → List ℕ → List ℕ → Type 0
      Meets a dat dat' es es' = (said r frame dat' es' ≡ a) × (text_and_places r ≡ text_and_places_of a) × (dat' ≡ data_after a dat) × (es' ≡ entries_after a es)

      met : (t : Bool) (dat dat' es es' : List ℕ)
          → r ≡ pick t (Ok x) (Err Hold)
          → dat' ≡ pick t (overwritten (data_of x.m f i) dat) dat → es' ≡ pick t (overwritten (entries_of x.m f i x.places) es) es
          → Meets (held t) dat dat' es es'
      met false dat dat' es es' e a b = (ap (λ (q : Result Reading Refusal). said q frame dat' es') e, ap text_and_places e, a, b)
      met true dat dat' es es' e a b = (
        ap (λ (q : Result Reading Refusal). said q frame dat' es') e
            ∙ ap₂ (λ (u v : List ℕ). said (Ok x) frame u v) a b
            ∙ ap (λ (u : List ℕ). given (message_of x.device x.m (text_from x.m u (take x.places (overwritten (data_of x.m f i) dat))) (take x.places (overwritten (entries_of x.m f i x.places) es)))) p
            ∙ ap (λ (u : Fields (head_of x.m)). given (make x.device (head_of x.m) u)) (fields_said x.m f i x.places size part dat es),
        ap text_and_places e ∙ numbers_same,
        a ∙ ap (λ (u : List ℕ). overwritten u dat) (sym own_data),
        b ∙ ap (λ (u : List ℕ). overwritten u es) (sym own_entries),
      )

      pub read_met : (a : Answer Message) (dat dat' es es' : List ℕ) → given M ≡ a → Filled r x i f dat dat' es es' → ReadMet r a frame dat dat' es es'
      read_met a dat dat' es es' e w =
          let g = met (enough x.m f i x.places dat es) dat dat' es es' w.says w.data_is w.entries_are in
          let h : held (enough x.m f i x.places dat es) ≡ holding (length dat) (length es) a = holds_as dat es ∙ ap (holding (length dat) (length es)) e in
          let k = subst (λ (q : Answer Message). Meets q dat dat' es es') h g in
          record { says = k.0; numbers_are = k.1; data_is = k.2; entries_are = k.3 }

pub told_refused : (n : Refusal) (a : Answer Message) (frame : List ℕ) → refused n ≡ a → Tells (Err n) a frame
told_refused n a frame e = subst (λ (q : Answer Message). Tells (Err n) q frame) e (record { says = refl; numbers_are = refl })

pub read_refused : (n : Refusal) (a : Answer Message) (frame dat es : List ℕ) → refused n ≡ a → ReadMet (Err n) a frame dat dat es es
read_refused n a frame dat es e =
    subst (λ (q : Answer Message). ReadMet (Err n) q frame dat dat es es) e
    (record { says = refl; numbers_are = refl; data_is = refl; entries_are = refl })
