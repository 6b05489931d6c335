-- The name, URL or sample bytes of a settled message stand in its frame where the layout has them.
-- Assumes nothing.
use mathlib.Core.Path.{◌≡◌, refl, sym, ap, subst, ◌∙◌}
use mathlib.Core.Bool.{Bool, true, false}
use mathlib.Core.List.{List, [], ◌∷◌, ◌++◌, append_assoc, append-nil}
use Prim.Native.Nat.{ℕ, zero, suc, ◌+◌, ◌≤◌, ◌%◌}
use native.Mathlib.Omega.{arith}
use lib.Dec.{eqb}
use lib.ListN.{length, take, drop, length-append}
use lib.Seq.{take_at, drop_at}
use borrow.Author.Tests.{ne_eqb}
use Rattle.util.specs.Groups.{groups}
use Rattle.util.specs.Pick.{pick}
use Rattle.util.specs.Checksum.{checksum}
use Rattle.messages.specs.Types.{Head, FileReferenceType}
use Rattle.messages.specs.declared.head.Head.TheVariants.{SampleDumpHeader, SampleDumpPacket, SampleDumpRequest, LoopPointTransmission, LoopPointsRequest, SampleName, SampleNameRequest, ExtendedHeader, ExtendedLoopPointTransmission, ExtendedLoopPointsRequest, IdentityRequest, IdentityReply, FileDumpHeader, FileDumpPacket, FileDumpRequest, TuningBulkDumpRequest, KeyBasedTuningDump, BankTuningBulkDumpRequest, BankKeyBasedTuningDump, ScaleTuningDump1Byte, ScaleTuningDump2Byte, TuningNoteChange, ScaleTuning1Byte, ScaleTuning2Byte, GeneralMidi1, GeneralMidiOff, GeneralMidi2, FileReferenceOpen, SelectSoundFile, SelectWAV, FileReferenceOpenSelect, FileReferenceClose, EOF, Wait, Cancel, NAK, ACK}
use Rattle.messages.specs.declared.file_reference.FileReferenceType.TheVariants.{DLS, SF2, WAV}
use Rattle.messages.specs.format.{all_bytes, all_settled}
use Rattle.messages.specs.Fields.{u7, u14, u28, device, tuning, file_type}
use Rattle.messages.specs.Structures.{scale_1, scale_2}
use Rattle.messages.specs.Maps.{reference_types, select_for, open_length}
use Rattle.messages.specs.Layouts.{Fields, form, code, summed, text_at, text_in}
use Rattle.messages.specs.Messages.{Message, opening, body, with_sum, framed, text}
use Rattle.messages.specs.Promises.{TextStands, TextInFrame}
use Rattle.messages.proofs.Exact.{settled_parts, written}

-- a text that stands in bytes, n of them before it
pub record Lies (n : ℕ) (t bs : List ℕ) : Type 0 where
  pub before : List ℕ
  pub behind : List ℕ
  pub long : length before ≡ n
  pub is : before ++ (t ++ behind) ≡ bs

-- ---- in the fields

-- bytes below 128 are written as they stand
bytes_same : (l : List ℕ) → all_settled u7 l → all_bytes u7 l ≡ l
bytes_same [] h = refl
bytes_same (x ∷ l) h =
    let e : x % 128 ≡ x = omega (arith, h.0) in
    ap (λ (y : ℕ). y ∷ all_bytes u7 l) e ∙ ap (λ (m : List ℕ). x ∷ m) (bytes_same l h.1)

between : (a t b : List ℕ) → all_settled u7 t → Lies (length a) t (a ++ (all_bytes u7 t ++ b))
between a t b h = record { before = a; behind = b; long = refl; is = ap (λ (l : List ℕ). a ++ (l ++ b)) (sym (bytes_same t h)) }

last : (a t bs : List ℕ) → a ++ t ≡ bs → Lies (length a) t bs
last a t bs e = record { before = a; behind = []; long = refl; is = ap (λ (l : List ℕ). a ++ l) (append-nil t) ∙ e }

-- context, length and type before a URL
behind_type : (c n : ℕ) (t : FileReferenceType) (u r : List ℕ) → Lies 8 u (u14.bytes c ++ (groups 2 n ++ (reference_types.code t ++ (u ++ r))))
behind_type c n DLS u r = record { before = u14.bytes c ++ (groups 2 n ++ reference_types.code DLS); behind = r; long = refl; is = refl }
behind_type c n SF2 u r = record { before = u14.bytes c ++ (groups 2 n ++ reference_types.code SF2); behind = r; long = refl; is = refl }
behind_type c n WAV u r = record { before = u14.bytes c ++ (groups 2 n ++ reference_types.code WAV); behind = r; long = refl; is = refl }

-- a text behind n bytes; with 0 there is none
abbrev Stands : ℕ → List ℕ → List ℕ → Type 0
Stands zero t bs = t ≡ []
Stands (suc n) t bs = Lies (suc n) t bs

stands : (h : Head) (f : Fields h) → (form h).settled f → Stands (text_at h) (text_in h f) ((form h).bytes f)
stands SampleDumpPacket f h =
    subst (Lies 1 f.samples) (ap (λ (l : List ℕ). u7.bytes f.count ++ l) (append-nil (all_bytes u7 f.samples)))
    (between (u7.bytes f.count) f.samples [] h.0.1.1)
stands SampleName f h =
    subst (Lies 4 f.name) (ap (λ (l : List ℕ). u14.bytes f.sample ++ (0 ∷ length f.name ∷ l)) (append-nil (all_bytes u7 f.name)))
    (between (u14.bytes f.sample ++ (0 ∷ length f.name ∷ [])) f.name [] h.0.1.0.1.1)
stands FileDumpHeader f h = last (device.bytes f.sender ++ (file_type.bytes f.type ++ u28.bytes f.length)) f.name _ refl
stands FileDumpRequest f h = last (device.bytes f.requester ++ file_type.bytes f.type) f.name _ refl
stands KeyBasedTuningDump f h = between (u7.bytes f.program) f.name (all_bytes tuning f.tunings) h.0.1.0.1
stands BankKeyBasedTuningDump f h = between (u7.bytes f.bank ++ u7.bytes f.program) f.name (all_bytes tuning f.tunings) h.0.1.1.0.1
stands ScaleTuningDump1Byte f h = between (u7.bytes f.bank ++ u7.bytes f.program) f.name (scale_1.bytes f.scale) h.0.1.1.0.1
stands ScaleTuningDump2Byte f h = between (u7.bytes f.bank ++ u7.bytes f.program) f.name (scale_2.bytes f.scale) h.0.1.1.0.1
stands FileReferenceOpen f h = behind_type f.context _ f.type f.url (0 ∷ [])
stands FileReferenceOpenSelect f h =
    let n = open_length (f.type, (f.url, f.map)) in
    subst (λ (l : List ℕ). Lies 8 f.url (u14.bytes f.context ++ (groups 2 n ++ (reference_types.code f.type ++ l))))
    (sym (append_assoc f.url (0 ∷ []) ((select_for f.type).bytes f.map)))
    (behind_type f.context n f.type f.url (0 ∷ (select_for f.type).bytes f.map))
stands SampleDumpHeader f h = refl
stands SampleDumpRequest f h = refl
stands LoopPointTransmission f h = refl
stands LoopPointsRequest f h = refl
stands SampleNameRequest f h = refl
stands ExtendedHeader f h = refl
stands ExtendedLoopPointTransmission f h = refl
stands ExtendedLoopPointsRequest f h = refl
stands IdentityRequest f h = refl
stands IdentityReply f h = refl
stands FileDumpPacket f h = refl
stands TuningBulkDumpRequest f h = refl
stands BankTuningBulkDumpRequest f h = refl
stands TuningNoteChange f h = refl
stands ScaleTuning1Byte f h = refl
stands ScaleTuning2Byte f h = refl
stands GeneralMidi1 f h = refl
stands GeneralMidiOff f h = refl
stands GeneralMidi2 f h = refl
stands SelectSoundFile f h = refl
stands SelectWAV f h = refl
stands FileReferenceClose f h = refl
stands EOF f h = refl
stands Wait f h = refl
stands Cancel f h = refl
stands NAK f h = refl
stands ACK f h = refl

-- ---- in the frame

-- what follows the fields
abbrev closing : Bool → List ℕ → List ℕ
closing true b = checksum b ∷ 0xF7 ∷ []
closing false b = 0xF7 ∷ []

with_closing : (s : Bool) (b : List ℕ) → with_sum s b ++ (0xF7 ∷ []) ≡ b ++ closing s b
with_closing true b = append_assoc b (checksum b ∷ []) (0xF7 ∷ [])
with_closing false b = refl

-- bytes around those in which a text stands
around : (n : ℕ) (t bs a b : List ℕ) → Lies n t bs → Lies (length a + n) t (a ++ (bs ++ b))
around n t bs a b l =
    record {
      before = a ++ l.before;
      behind = l.behind ++ b;
      long = length-append a l.before ∙ ap (λ (k : ℕ). length a + k) l.long;
      is = append_assoc a l.before (t ++ (l.behind ++ b))
          ∙ ap (λ (x : List ℕ). a ++ (l.before ++ x)) (sym (append_assoc t l.behind b))
          ∙ ap (λ (x : List ℕ). a ++ x) (sym (append_assoc l.before (t ++ l.behind) b))
          ∙ ap (λ (x : List ℕ). a ++ (x ++ b)) l.is;
    }

-- the part that a text which stands behind n bytes is
found : (n : ℕ) (t bs : List ℕ) → Lies n t bs → (n + length t ≤ length bs) × (take (length t) (drop n bs) ≡ t)
found n t bs l = (
  omega (arith, l.long, ap length (sym l.is) ∙ length-append l.before (t ++ l.behind), length-append t l.behind),
  ap (λ (x : List ℕ). take (length t) (drop n x)) (sym l.is)
      ∙ ap (take (length t)) (drop_at l.before (t ++ l.behind) n l.long)
      ∙ take_at t l.behind (length t) refl,
)

framed_as : (m : Message) → (0xF0 ∷ opening m.device m.head) ++ ((form m.head).bytes m.fields ++ closing (summed m.head) (body m)) ≡ framed m
framed_as m =
    ap (λ (l : List ℕ). 0xF0 ∷ l)
    (sym (append_assoc (opening m.device m.head) ((form m.head).bytes m.fields) (closing (summed m.head) (body m)))
    ∙ sym (with_closing (summed m.head) (body m)))

-- the text of m is the part of its frame that begins at p
abbrev PartAt : Message → ℕ → Type 0
PartAt m p = (p + length (text m) ≤ length (framed m)) × (take (length (text m)) (drop p (framed m)) ≡ text m)

placed : (m : Message) (n : ℕ) → Stands n (text m) ((form m.head).bytes m.fields) → PartAt m (pick (eqb n 0) 0 (3 + length (code m.head) + n))
placed m zero e = (omega (arith, ap length e), rw e)
placed m (suc n) l =
    let w = around (suc n) (text m) ((form m.head).bytes m.fields) (0xF0 ∷ opening m.device m.head) (closing (summed m.head) (body m)) l in
    subst (λ (t : Bool). PartAt m (pick t 0 (3 + length (code m.head) + suc n))) (sym (ne_eqb (suc n) 0 (λ e. omega arith)))
    (found (3 + length (code m.head) + suc n) (text m) (framed m)
    (record { before = w.before; behind = w.behind; long = omega (arith, w.long); is = w.is ∙ framed_as m }))

pub text_in_frame : TextInFrame
text_in_frame m bs s e =
    written m bs e λ a f.
    let p = settled_parts m s in
    let w = placed m (text_at m.head) (stands m.head m.fields p.1) in
    let g : framed m ≡ bs = ap framed (sym s.unchanged) ∙ f in
    subst (TextStands m) g (record { inside = w.0; there = w.1 })
