-- Reading gives a message exactly if the message is settled for the kind and the bytes are its frame. So no two settled messages have one frame.
-- Nothing here speaks of a head: the layouts bring their laws.
-- Assumes nothing.
use mathlib.Core.Path.{◌≡◌, refl, sym, subst, ap, ◌∙◌}
use mathlib.Core.Bool.{Bool, true, false}
use mathlib.Core.Option.{Option, none, some}
use mathlib.Core.List.{List, [], ◌∷◌, ◌++◌, append_assoc}
use Prim.Native.Nat.{ℕ, ◌<◌, ◌≤◌}
use native.Mathlib.Omega.{arith}
use lib.Dec.{leb, eqb, lit<}
use lib.Bits.{bit_xor, xor_lt}
use lib.ListN.{length, length-append}
use borrow.Author.Tests.{eqb-true, eq-eqb, le-leb, leb-true}
use Rattle.util.specs.Groups.{Seven, seven}
use Rattle.util.specs.Checksum.{checksum, xor_from}
use Rattle.util.proofs.Laws.Groups.{seven_append, seven_true, true_seven}
use Rattle.util.specs.Options.{only_if}
use Rattle.util.proofs.Laws.Options.{none_some, only_if_some}
use Rattle.messages.specs.Types.{Refusal, Head, Kind, DeviceID}
use Rattle.messages.specs.Refusals.{least_none, none_both}
use Rattle.messages.specs.format.{Got, bad, got, bind, bad_got, bind_got, bind_whole_some, strip, strip_only, after_got, find, find_only}
use Rattle.messages.specs.Fields as field
use Rattle.messages.specs.Layouts.{Fields, form, code, summed, reads, all_heads}
use Rattle.messages.specs.Messages.{Message, make, refused, given, refusal, settle, opening, body, with_sum, framed, given_unless, write_of, Settled, SettledFor, after_first, unsnoc, opt, inside, Opened, read_opening, plain_answer, sum_answer, read_summed, read_fields, read_opened, read_inside, read_of}
use Rattle.messages.specs.Promises.{IsFrame, WritesSettled, AdmittedWritten, ReadExactly, FrameUnique, ReadsBack, WrittenReads, FrameShaped, Shaped}
use Rattle.messages.proofs.Heads.{find_head, code_seven, two_bytes}

-- ---- settled, by the parts

abbrev pub PartsSettled : Message → Type 0
PartsSettled m = (field.device).settled m.device × (form m.head).settled m.fields

pub parts_settled : (m : Message) → PartsSettled m → Settled m
unfolding refusal settle
parts_settled m h =
    record {
      admitted = none_both ((field.device).stays m.device h.0).0 ((form m.head).stays m.fields h.1).0;
      unchanged = λ i. make (((field.device).stays m.device h.0).1 i) m.head (((form m.head).stays m.fields h.1).1 i);
    }

pub settle_parts : (m : Message) → refusal m ≡ none → PartsSettled (settle m)
unfolding refusal settle
settle_parts m e =
    let z = least_none ((field.device).refuses m.device) ((form m.head).refuses m.fields) e in
    ((field.device).keeps m.device z.0, (form m.head).keeps m.fields z.1)

pub settled_parts : (m : Message) → Settled m → PartsSettled m
settled_parts m s = subst PartsSettled s.unchanged (settle_parts m s.admitted)

-- ---- what is written

pub settle_settled : (m : Message) → refusal m ≡ none → Settled (settle m)
settle_settled m e = parts_settled (settle m) (settle_parts m e)

-- an admitted message is written as its settled form's bytes
pub write_admitted : (m : Message) → refusal m ≡ none → write_of m ≡ given (framed (settle m))
unfolding write_of
write_admitted m e = rw e

pub write_settled : (m : Message) → Settled m → write_of m ≡ given (framed m)
write_settled m s = write_admitted m s.admitted ∙ ap (λ (n : Message). given (framed n)) s.unchanged

unless_given : {A C : Type 0} (o : Option Refusal) {a b : A} → given_unless o a ≡ given b → (o ≡ none → a ≡ b → C) → C
unless_given none e k = k refl (cc)
unless_given (some r) e k = absurd (let z : ◌≡◌ {A = ℕ} 0 1 = cc in omega arith)

-- what has a frame is admitted, and the frame is its settled form's bytes
pub written : {C : Type 0} (m : Message) (bs : List ℕ) → IsFrame m bs → (refusal m ≡ none → framed (settle m) ≡ bs → C) → C
unfolding write_of
written m bs e k = unless_given (refusal m) e k

pub writes_settled : WritesSettled
writes_settled m bs e =
    written m bs e λ a f.
    let s = settle_settled m a in
    (s, write_settled (settle m) s ∙ ap given f)

pub admitted_written : AdmittedWritten
admitted_written m e = (framed (settle m), write_admitted m e)

-- ---- the last byte

pub unsnoc_back : (i : List ℕ) (x : ℕ) → unsnoc (i ++ (x ∷ [])) ≡ got x i
unsnoc_back [] x = refl
unsnoc_back (b ∷ i) x = rw (unsnoc_back i x)

after_first_only : (b : ℕ) (bs : List ℕ) (g : Got ℕ) (x : ℕ) (i : List ℕ)
    → (g ≡ bad → bs ≡ []) → ((y : ℕ) (j : List ℕ) → g ≡ got y j → j ++ (y ∷ []) ≡ bs)
    → after_first b g ≡ got x i → i ++ (x ∷ []) ≡ b ∷ bs
after_first_only b bs bad x i n k e =
    let y : b ≡ x = cc in
    let z : [] ≡ i = cc in
    rw (← y, ← z, n refl)
after_first_only b bs (got y j) x i n k e =
    let p : y ≡ x = cc in
    let q : b ∷ j ≡ i = cc in
    rw (← p, ← q, k y j refl)

after_first_bad : {C : Type 0} (b : ℕ) (g : Got ℕ) → after_first b g ≡ bad → C
after_first_bad b bad e = absurd (bad_got (sym e))
after_first_bad b (got x i) e = absurd (bad_got (sym e))

unsnoc_bad : (l : List ℕ) → unsnoc l ≡ bad → l ≡ []
unsnoc_bad [] e = refl
unsnoc_bad (b ∷ l) e = after_first_bad b (unsnoc l) e

pub unsnoc_only : (l : List ℕ) (x : ℕ) (i : List ℕ) → unsnoc l ≡ got x i → i ++ (x ∷ []) ≡ l
unsnoc_only [] x i e = absurd (bad_got e)
unsnoc_only (b ∷ l) x i e = after_first_only b l (unsnoc l) x i (unsnoc_bad l) (unsnoc_only l) e

-- ---- F0 and F7

pub inside_back : (mid : List ℕ) → Seven mid → 4 ≤ length mid → inside (0xF0 ∷ (mid ++ (0xF7 ∷ []))) ≡ some mid
inside_back mid s h =
    let l : 6 ≤ length (0xF0 ∷ (mid ++ (0xF7 ∷ []))) = omega (arith, length-append mid (0xF7 ∷ [])) in
    rw (le-leb _ _ l, unsnoc_back mid 0xF7) (ap (λ (t : Bool). only_if t (some mid)) (true_seven mid s))

opt_some : {A B C : Type 0} (o : Option A) (f : A → Option B) {b : B} → opt o f ≡ some b → ((a : A) → o ≡ some a → f a ≡ some b → C) → C
opt_some none f e k = absurd (none_some e)
opt_some (some a) f e k = k a refl e

pub inside_shaped : (bs mid : List ℕ) → inside bs ≡ some mid → (0xF0 ∷ (mid ++ (0xF7 ∷ [])) ≡ bs) × Seven mid × (6 ≤ length bs)
inside_shaped bs mid e =
    only_if_some (leb 6 (length bs)) e λ t e₁. opt_some (strip (0xF0 ∷ []) bs) _ e₁ λ s d e₂.
    bind_whole_some (unsnoc s) _ e₂ λ x i d₁ e₃. only_if_some (eqb x 0xF7) e₃ λ t₁ e₄. only_if_some (seven i) e₄ λ t₂ e₅.
    let y : i ≡ mid = cc in (
      rw (← y, ← eqb-true x 0xF7 t₁, unsnoc_only s x i d₁, strip_only (0xF0 ∷ []) bs s d),
      rw (← y) (seven_true i t₂),
      leb-true 6 (length bs) t,
    )

-- ---- 7E, device, head

pub opening_back : (k : Kind) (d : DeviceID) (h : Head) (r : List ℕ) → (field.device).settled d → reads k h ≡ true
    → read_opening k (opening d h ++ r) ≡ got (d, h) r
opening_back k d h r s e =
    ap (λ (g : Got DeviceID). bind {B = Opened} g λ v t. bind (find (reads k) code all_heads t) λ x u. got (v, x) u) ((field.device).back d (code h ++ r) s)
    ∙ ap (λ (g : Got Head). bind {B = Opened} g λ x u. got (d, x) u) (find_head k h r e)

pub opening_only : (k : Kind) (bs : List ℕ) (o : Opened) (r : List ℕ) → read_opening k bs ≡ got o r
    → ((field.device).settled o.0 × (reads k o.1 ≡ true)) × (opening o.0 o.1 ++ r ≡ bs)
opening_only k bs o r e =
    after_got (strip (0x7E ∷ []) bs) _ e λ s d e₁. bind_got ((field.device).read s) _ e₁ λ v t d₁ e₂.
    bind_got (find (reads k) code all_heads t) _ e₂ λ h u d₂ e₃.
    let y : ◌≡◌ {A = Opened} (v, h) o = cc in
    let z : u ≡ r = cc in
    let f = (field.device).only s v t d₁ in
    let g = find_only (reads k) code all_heads t h u d₂ in
    subst (λ (o : Opened). ((field.device).settled o.0 × (reads k o.1 ≡ true)) × (opening o.0 o.1 ++ r ≡ bs)) y
    ((f.0, g.0), rw (append_assoc, ← z, g.1, f.1) (strip_only (0x7E ∷ []) bs s d))

-- ---- what follows the head

unfoldable pub tail : Bool → List ℕ → List ℕ → List ℕ
tail true o e = e ++ (checksum (o ++ e) ∷ [])
tail false o e = e

pub with_sum_tail : (s : Bool) (o e : List ℕ) → with_sum s (o ++ e) ≡ o ++ tail s o e
unfolding tail
with_sum_tail true o e = append_assoc o e _
with_sum_tail false o e = refl

xor_seven : (x : ℕ) (bs : List ℕ) → x < 128 → Seven bs → xor_from x bs < 128
xor_seven x [] h s = h
xor_seven x (b ∷ bs) h s = xor_seven (bit_xor x b) bs (xor_lt 7 x b h s.0) s.1

with_sum_seven : (s : Bool) (b : List ℕ) → Seven b → Seven (with_sum s b)
with_sum_seven true b h = seven_append b _ h (xor_seven 0 b (lit< tt) h, tt)
with_sum_seven false b h = h

with_sum_long : (s : Bool) (b : List ℕ) → length b ≤ length (with_sum s b)
with_sum_long true b = omega (arith, length-append b (checksum b ∷ []))
with_sum_long false b = omega arith

fields_back : (s : Bool) (d : DeviceID) (h : Head) (f : Fields h) → (form h).settled f
    → read_fields d h s (tail s (opening d h) ((form h).bytes f)) ≡ given (make d h f)
unfolding tail
fields_back true d h f g =
    rw (unsnoc_back ((form h).bytes f) _, (form h).back f g, eq-eqb (checksum (opening d h ++ (form h).bytes f)) _ refl)
fields_back false d h f g = rw ((form h).back f g)

-- ---- a settled message is read from its bytes

module _ (m : Message) (h : PartsSettled m) where
  pub body_seven : Seven (body m)
  body_seven =
      seven_append (opening m.device m.head) ((form m.head).bytes m.fields)
      (lit< tt, seven_append ((field.device).bytes m.device) (code m.head) ((field.device).low m.device h.0) (code_seven m.head))
      ((form m.head).low m.fields h.1)

  pub body_long : 4 ≤ length (body m)
  body_long = omega (arith, two_bytes m.head m.fields)

  pub inside_framed : inside (framed m) ≡ some (with_sum (summed m.head) (body m))
  inside_framed =
      inside_back (with_sum (summed m.head) (body m)) (with_sum_seven (summed m.head) (body m) body_seven)
      (omega (arith, body_long, with_sum_long (summed m.head) (body m)))

  pub framed_read : (k : Kind) → reads k m.head ≡ true → read_of k (framed m) ≡ given m
  unfolding read_of
  framed_read k e =
      ap (read_inside k) inside_framed
      ∙ ap (λ (mid : List ℕ). read_opened (read_opening k mid)) (with_sum_tail (summed m.head) (opening m.device m.head) ((form m.head).bytes m.fields))
      ∙ ap read_opened (opening_back k m.device m.head (tail (summed m.head) (opening m.device m.head) ((form m.head).bytes m.fields)) h.0 e)
      ∙ fields_back (summed m.head) m.device m.head m.fields h.1

pub frame_shaped : FrameShaped
frame_shaped m bs e =
    written m bs e λ a f.
    let i = inside_shaped (framed (settle m)) (with_sum (summed (settle m).head) (body (settle m))) (inside_framed (settle m) (settle_parts m a)) in
    subst Shaped f (record { mid = with_sum (summed (settle m).head) (body (settle m)); is = refl; low = i.1; long = i.2 })

-- ---- what is read is settled, and its bytes are what was read

pub refused_given : {A : Type 0} {r : Refusal} {a : A} → refused r ≡ given a → ⊥
refused_given e = let z : ◌≡◌ {A = ℕ} 0 1 = cc in omega arith

plain_step : {C : Type 0} (d : DeviceID) (h : Head) (o : Option (Fields h)) {m : Message} → plain_answer d h o ≡ given m
    → ((f : Fields h) → o ≡ some f → make d h f ≡ m → C) → C
plain_step d h none e k = absurd (refused_given e)
plain_step d h (some f) e k = k f refl (cc)

sum_step : {C : Type 0} (d : DeviceID) (h : Head) (t : Bool) (o : Option (Fields h)) {m : Message} → sum_answer d h t o ≡ given m
    → ((f : Fields h) → t ≡ true → o ≡ some f → make d h f ≡ m → C) → C
sum_step d h t none e k = absurd (refused_given e)
sum_step d h true (some f) e k = k f refl refl (cc)
sum_step d h false (some f) e k = absurd (refused_given e)

summed_step : {C : Type 0} (d : DeviceID) (h : Head) (g : Got ℕ) {m : Message} → read_summed d h g ≡ given m
    → ((c : ℕ) (r : List ℕ) (f : Fields h) → g ≡ got c r → c ≡ checksum (opening d h ++ r) → (form h).read r ≡ some f → make d h f ≡ m → C) → C
summed_step d h bad e k = absurd (refused_given e)
summed_step d h (got c r) e k =
    sum_step d h (eqb c (checksum (opening d h ++ r))) ((form h).read r) e λ f t o y. k c r f refl (eqb-true c _ t) o y

fields_step : {C : Type 0} (s : Bool) (d : DeviceID) (h : Head) (r : List ℕ) {m : Message} → read_fields d h s r ≡ given m
    → ((f : Fields h) → (form h).settled f → tail s (opening d h) ((form h).bytes f) ≡ r → make d h f ≡ m → C) → C
unfolding tail
fields_step false d h r e k = plain_step d h ((form h).read r) e λ f o y. let g = (form h).only r f o in k f g.0 g.1 y
fields_step true d h r e k =
    summed_step d h (unsnoc r) e λ c i f u x o y.
    let g = (form h).only i f o in
    k f g.0 (rw (g.1, ← x) (unsnoc_only r c i u)) y

inside_step : {C : Type 0} (k : Kind) (o : Option (List ℕ)) {m : Message} → read_inside k o ≡ given m
    → ((mid : List ℕ) → o ≡ some mid → read_opened (read_opening k mid) ≡ given m → C) → C
inside_step k none e f = absurd (refused_given e)
inside_step k (some mid) e f = f mid refl e

opened_step : {C : Type 0} (g : Got Opened) {m : Message} → read_opened g ≡ given m
    → ((o : Opened) (r : List ℕ) → g ≡ got o r → read_fields o.0 o.1 (summed o.1) r ≡ given m → C) → C
opened_step bad e f = absurd (refused_given e)
opened_step (got o r) e f = f o r refl e

abbrev pub SettledBytes : Kind → List ℕ → Message → Type 0
SettledBytes k bs m = PartsSettled m × (reads k m.head ≡ true) × (framed m ≡ bs)

pub read_parts : (k : Kind) (bs : List ℕ) (m : Message) → read_of k bs ≡ given m → SettledBytes k bs m
unfolding read_of
read_parts k bs m e =
    inside_step k (inside bs) e λ mid i e₁. opened_step (read_opening k mid) e₁ λ o r j e₂.
    fields_step (summed o.1) o.0 o.1 r e₂ λ f okf t y.
    let p = opening_only k mid o r j in
    subst (SettledBytes k bs) y (
      (p.0.0, okf),
      p.0.1,
      ap (λ (l : List ℕ). 0xF0 ∷ (l ++ (0xF7 ∷ [])))
          (with_sum_tail (summed o.1) (opening o.0 o.1) ((form o.1).bytes f)
          ∙ ap (λ (l : List ℕ). opening o.0 o.1 ++ l) t ∙ p.1)
          ∙ (inside_shaped bs mid i).0,
    )

-- ---- the promises

pub reads_back : ReadsBack
reads_back k m bs s e =
    written m bs e λ a f.
    let g : framed m ≡ bs = sym (ap framed s.settled.unchanged) ∙ f in
    ap (read_of k) (sym g) ∙ framed_read m (settled_parts m s.settled) k s.kind

pub read_settled : (k : Kind) (bs : List ℕ) (m : Message) → read_of k bs ≡ given m → SettledFor k m × IsFrame m bs
read_settled k bs m e =
    let p = read_parts k bs m e in
    let s = parts_settled m p.0 in
    (record { settled = s; kind = p.1 }, write_settled m s ∙ ap given p.2)

pub read_exactly : ReadExactly
read_exactly k bs m = (read_settled k bs m, λ h. reads_back k m bs h.0 h.1)

pub frame_unique : FrameUnique
frame_unique k m n bs p q e f =
    let a : given m ≡ given n = sym (reads_back k m bs p e) ∙ reads_back k n bs q f in
    cc

pub written_reads : WrittenReads
unfolding settle
written_reads k m bs t e =
    let w = writes_settled m bs e in
    reads_back k (settle m) bs (record { settled = w.0; kind = t }) w.1
