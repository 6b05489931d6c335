-- The refusals SUM and FIELD, rows 9 and 8: each is given exactly as its row says.
-- Assumes nothing.
use mathlib.Core.Path.{◌≡◌, refl, sym, ap, ◌∙◌}
use mathlib.Core.Bool.{Bool, true, false}
use mathlib.Core.Logic.{◌↔◌}
use mathlib.Core.Option.{Option, none, some}
use mathlib.Core.List.{List, [], ◌∷◌, ◌++◌, append_assoc}
use Prim.Native.Nat.{ℕ, ◌<◌}
use native.Mathlib.Omega.{arith}
use lib.Dec.{eqb}
use lib.ListN.{length-append}
use borrow.Author.Tests.{eqb-false, ne_eqb}
use Rattle.util.specs.Groups.{Seven}
use Rattle.util.specs.Checksum.{checksum}
use Rattle.util.proofs.Laws.Groups.{seven_append, seven_right}
use Rattle.messages.specs.Types.{Refusal, Head, Kind, DeviceID}
use Rattle.util.specs.declared.refusal.Refusal.TheVariants as R
use Rattle.messages.specs.format.{Got, bad, got}
use Rattle.messages.specs.Layouts.{Fields, form, summed}
use Rattle.messages.specs.Messages.{Message, make, Answer, refused, given, opening, body, with_sum, framed, unsnoc, inside, Opened, read_opening, plain_answer, sum_answer, read_summed, read_fields, read_opened, read_inside, read_of}
use Rattle.messages.specs.Promises.{IsFrameFor, Headed, checked, OtherSum, NoFrame, SumExactly, FieldExactly}
use Rattle.messages.proofs.Exact.{parts_settled, settled_parts, write_settled, unsnoc_back, unsnoc_only, inside_back, inside_shaped, opening_back, opening_only, body_seven, body_long, refused_given, read_settled, reads_back}
use Rattle.messages.proofs.Rows.{numbered_row, same_number, Late, message, field_refused, sum_refused, late_fields, inside_record, shaped_inside, opened_headed, headed_found}

-- ---- 9 SUM

-- an answer that refuses with SUM, by the steps that lead to it
nine_sum : {C : Type 0} (d : DeviceID) (h : Head) (t : Bool) (o : Option (Fields h)) → sum_answer d h t o ≡ refused R.Sum
    → ((f : Fields h) → t ≡ false → o ≡ some f → C) → C
nine_sum d h t none e k = absurd (omega (arith, same_number e))
nine_sum d h true (some f) e k = absurd (refused_given (sym e))
nine_sum d h false (some f) e k = k f refl refl

nine_plain : {C : Type 0} (d : DeviceID) (h : Head) (o : Option (Fields h)) → plain_answer d h o ≡ refused R.Sum → C
nine_plain d h none e = absurd (omega (arith, same_number e))
nine_plain d h (some f) e = absurd (refused_given (sym e))

nine_got : {C : Type 0} (d : DeviceID) (h : Head) (g : Got ℕ) → read_summed d h g ≡ refused R.Sum
    → ((c : ℕ) (r : List ℕ) (f : Fields h) → g ≡ got c r → eqb c (checksum (opening d h ++ r)) ≡ false → (form h).read r ≡ some f → C) → C
nine_got d h bad e k = absurd (omega (arith, same_number e))
nine_got d h (got c r) e k = nine_sum d h (eqb c (checksum (opening d h ++ r))) ((form h).read r) e λ f t o. k c r f refl t o

nine_fields : {C : Type 0} (s : Bool) (d : DeviceID) (h : Head) (r : List ℕ) → read_fields d h s r ≡ refused R.Sum
    → ((c : ℕ) (i : List ℕ) (f : Fields h) → s ≡ true → i ++ (c ∷ []) ≡ r → (c ≡ checksum (opening d h ++ i) → ⊥) → (form h).read i ≡ some f → C) → C
nine_fields false d h r e k = nine_plain d h ((form h).read r) e
nine_fields true d h r e k =
    nine_got d h (unsnoc r) e λ c i f u x o. k c i f refl (unsnoc_only r c i u) (eqb-false c _ x) o

nine_opened : {C : Type 0} (g : Got Opened) → read_opened g ≡ refused R.Sum
    → ((o : Opened) (r : List ℕ) → g ≡ got o r → read_fields o.0 o.1 (summed o.1) r ≡ refused R.Sum → C) → C
nine_opened bad e k = absurd (omega (arith, same_number e))
nine_opened (got o r) e k = k o r refl e

nine_inside : {C : Type 0} (k : Kind) (o : Option (List ℕ)) → read_inside k o ≡ refused R.Sum
    → ((mid : List ℕ) → o ≡ some mid → read_opened (read_opening k mid) ≡ refused R.Sum → C) → C
nine_inside k none e f = absurd (omega (arith, same_number e))
nine_inside k (some mid) e f = f mid refl e

last_low : (o l r mid : List ℕ) (c : ℕ) → Seven mid → o ++ r ≡ mid → l ++ (c ∷ []) ≡ r → c < 128
last_low o l r mid c s e f = (seven_right l (c ∷ []) (rw f (seven_right o r (rw e s)))).0

sum_refused_of : (k : Kind) (bs : List ℕ) → read_of k bs ≡ refused R.Sum → OtherSum k bs
unfolding read_of
sum_refused_of k bs e =
    nine_inside k (inside bs) e λ mid i e₁. nine_opened (read_opening k mid) e₁ λ o r j e₂.
    nine_fields (summed o.1) o.0 o.1 r e₂ λ c l f s y w d.
    let p = opening_only k mid o r j in
    let q = (form o.1).only l f d in
    let n = parts_settled (make o.0 o.1 f) (p.0.0, q.0) in
    let t = inside_shaped bs mid i in
    record {
      summed_bytes = opening o.0 o.1 ++ l;
      sum = c;
      other = checksum (opening o.0 o.1 ++ l);
      low = last_low (opening o.0 o.1) l r mid c t.1 p.1 y;
      message = make o.0 o.1 f;
      is = ap (λ (m : List ℕ). 0xF0 ∷ (m ++ (0xF7 ∷ [])))
          (append_assoc (opening o.0 o.1) l (c ∷ []) ∙ ap (λ (m : List ℕ). opening o.0 o.1 ++ m) y ∙ p.1)
          ∙ t.0;
      wrong = w;
      head_sums = s;
      settled = record { settled = n; kind = p.0.1 };
      right = write_settled (make o.0 o.1 f) n ∙ ap given (rw (s, q.1));
    }

-- ---- the other way

snoc_same : (a b : List ℕ) (x y : ℕ) → a ++ (x ∷ []) ≡ b ++ (y ∷ []) → (a ≡ b) × (x ≡ y)
snoc_same a b x y e =
    let g : got x a ≡ got y b = sym (unsnoc_back a x) ∙ ap unsnoc e ∙ unsnoc_back b y in
    ((cc), (cc))

pub checked_same : (a b : List ℕ) (x y : ℕ) → checked a x ≡ checked b y → (a ≡ b) × (x ≡ y)
checked_same a b x y e =
    let t : a ++ (x ∷ []) ++ (0xF7 ∷ []) ≡ b ++ (y ∷ []) ++ (0xF7 ∷ []) = cc in
    snoc_same a b x y (snoc_same (a ++ (x ∷ [])) (b ++ (y ∷ [])) 0xF7 0xF7 t).0

-- the frame of a settled message whose head has a sum
pub summed_frame : (m : Message) → summed m.head ≡ true → framed m ≡ checked (body m) (checksum (body m))
summed_frame m t = ap (λ (u : Bool). 0xF0 ∷ (with_sum u (body m) ++ (0xF7 ∷ []))) t

wrong_sum : (s : Bool) (d : DeviceID) (h : Head) (f : Fields h) (c : ℕ) → s ≡ true → (form h).settled f
    → (c ≡ checksum (opening d h ++ (form h).bytes f) → ⊥)
    → read_fields d h s ((form h).bytes f ++ (c ∷ [])) ≡ refused R.Sum
wrong_sum s d h f c t g w =
    ap (λ (u : Bool). read_fields d h u ((form h).bytes f ++ (c ∷ []))) t
    ∙ rw (unsnoc_back ((form h).bytes f) c, ne_eqb c _ w, (form h).back f g)

sum_refuses : (k : Kind) (bs : List ℕ) (o : OtherSum k bs) → read_of k bs ≡ refused R.Sum
unfolding read_of
sum_refuses k bs o =
    let m = o.message in
    let h = settled_parts m o.settled.settled in
    let f : framed m ≡ checked o.summed_bytes o.other =
    let g : given (framed m) ≡ given (checked o.summed_bytes o.other) = sym (write_settled m o.settled.settled) ∙ o.right in cc in
    let i = checked_same (body m) o.summed_bytes (checksum (body m)) o.other (sym (summed_frame m o.head_sums) ∙ f) in
    ap (λ (l : List ℕ). read_inside k (inside l)) (sym o.is)
    ∙ ap (λ (b : List ℕ). read_inside k (inside (checked b o.sum))) (sym i.0)
    ∙ ap (read_inside k) (inside_back (body m ++ (o.sum ∷ [])) (seven_append (body m) (o.sum ∷ []) (body_seven m h) (o.low, tt))
    (omega (arith, body_long m h, length-append (body m) (o.sum ∷ []))))
    ∙ ap (λ (b : List ℕ). read_opened (read_opening k b)) (append_assoc (opening m.device m.head) ((form m.head).bytes m.fields) (o.sum ∷ []))
    ∙ ap read_opened (opening_back k m.device m.head ((form m.head).bytes m.fields ++ (o.sum ∷ [])) h.0 o.settled.kind)
    ∙ wrong_sum (summed m.head) m.device m.head m.fields o.sum o.head_sums h.1 (λ e. o.wrong (e ∙ i.1))

pub sum_exactly : SumExactly
sum_exactly k bs = numbered_row (read_of k bs) R.Sum (sum_refused_of k bs, sum_refuses k bs)

-- ---- 8 FIELD

-- a refusal of any number: no settled message has the frame
pub refused_none : (k : Kind) (bs : List ℕ) (r : Refusal) → read_of k bs ≡ refused r → IsFrameFor k bs → ⊥
refused_none k bs r e f = refused_given (sym e ∙ reads_back k f.message bs f.settled f.frame)

eight_headed : (k : Kind) (mid : List ℕ) (g : Got Opened) → read_opening k mid ≡ g → read_opened g ≡ refused R.Field → Headed mid
eight_headed k mid bad e h = absurd (omega (arith, same_number h))
eight_headed k mid (got o r) e h = opened_headed k mid o r e

no_frame : (k : Kind) (bs : List ℕ) (o : Option (List ℕ)) → inside bs ≡ o → read_of k bs ≡ refused R.Field → NoFrame k bs
unfolding read_of
no_frame k bs none e h = absurd (omega (arith, same_number (sym (ap (read_inside k) e) ∙ h)))
no_frame k bs (some mid) e h =
    record {
      shaped = inside_record bs mid e;
      headed = eight_headed k mid (read_opening k mid) refl (sym (ap (read_inside k) e) ∙ h);
      none_settled = refused_none k bs R.Field h;
      not_sum = λ o. omega (arith, same_number (sym h ∙ sum_refuses k bs o));
    }

-- with a head, every answer is a message, FIELD or SUM
late_opened : (k : Kind) (mid : List ℕ) (g : Got Opened) → (g ≡ bad → ⊥) → Late (read_opened g)
late_opened k mid bad n = absurd (n refl)
late_opened k mid (got o r) n = late_fields o.0 o.1 (summed o.1) r

field_of : (k : Kind) (bs : List ℕ) → NoFrame k bs → (a : Answer Message) → Late a → read_of k bs ≡ a → read_of k bs ≡ refused R.Field
field_of k bs u (given m) message e =
    let p = read_settled k bs m e in
    absurd (u.none_settled (record { message = m; settled = p.0; frame = p.1 }))
field_of k bs u (refused r) field_refused e = e
field_of k bs u (refused r) sum_refused e = absurd (u.not_sum (sum_refused_of k bs e))

field_answer : (k : Kind) (bs : List ℕ) → (read_of k bs ≡ refused R.Field) ↔ NoFrame k bs
unfolding read_of
field_answer k bs = (
  no_frame k bs (inside bs) refl,
  λ u.
      field_of k bs u (read_of k bs)
      (rw (shaped_inside bs u.shaped) (late_opened k u.shaped.mid (read_opening k u.shaped.mid) (headed_found k u.shaped.mid u.shaped.low u.headed)))
      refl,
)

pub field_exactly : FieldExactly
field_exactly k bs = numbered_row (read_of k bs) R.Field (field_answer k bs)
