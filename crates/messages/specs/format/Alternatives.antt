-- One of two formats, the first if it reads; and what is never written.
use Rattle.std.specs.Prelude.{◌≡◌, refl, List, [], ℕ}
use Rattle.std.proofs.Common.{subst}
use Rattle.std.proofs.Math.Option.{Option, none, some}
use Rattle.util.specs.Groups.{Seven}
use Rattle.util.specs.Options.{map_option}
use Rattle.util.proofs.Laws.Options.{map_option_some, none_some, some_none}
use Rattle.messages.specs.Types.{Refusal}
use Rattle.messages.specs.format.Core.{Whole}

-- ---- one of two wholes, the first if it reads

pub data Either (A B : Type 0) : Type 0 where
  left : A → Either A B
  right : B → Either A B

abbrev pub or_right : {A B : Type 0} → Option A → Option B → Option (Either A B)
or_right (some a) o = some (left a)
or_right none o = map_option right o

pub or_right_some : {A B C : Type 0} (o : Option A) (n : Option B) {x : Either A B} → or_right o n ≡ some x
    → ((a : A) → o ≡ some a → left a ≡ x → C) → ((b : B) → n ≡ some b → right b ≡ x → C) → C
or_right_some (some a) n e k l = k a refl (cc)
or_right_some none n e k l = map_option_some right n e l

module _ {A B : Type 0} (p : Whole A) (q : Whole B) (other : (b : B) → q.settled b → p.read (q.bytes b) ≡ none) where
  abbrev pub either_refuses : Either A B → Option Refusal
  either_refuses (left a) = p.refuses a
  either_refuses (right b) = q.refuses b

  abbrev pub either_settle : Either A B → Either A B
  either_settle (left a) = left (p.settle a)
  either_settle (right b) = right (q.settle b)

  abbrev pub either_settled : Either A B → Type 0
  either_settled (left a) = p.settled a
  either_settled (right b) = q.settled b

  abbrev pub either_bytes : Either A B → List ℕ
  either_bytes (left a) = p.bytes a
  either_bytes (right b) = q.bytes b

  pub either_keeps : (x : Either A B) → either_refuses x ≡ none → either_settled (either_settle x)
  either_keeps (left a) e = p.keeps a e
  either_keeps (right b) e = q.keeps b e

  pub either_stays : (x : Either A B) → either_settled x → (either_refuses x ≡ none) × (either_settle x ≡ x)
  either_stays (left a) h = ((p.stays a h).0, rw (p.stays a h).1)
  either_stays (right b) h = ((q.stays b h).0, rw (q.stays b h).1)

  pub either_low : (x : Either A B) → either_settled x → Seven (either_bytes x)
  either_low (left a) h = p.low a h
  either_low (right b) h = q.low b h

  pub either_back : (x : Either A B) → either_settled x → or_right (p.read (either_bytes x)) (q.read (either_bytes x)) ≡ some x
  either_back (left a) h = rw (p.back a h)
  either_back (right b) h = rw (other b h, q.back b h)

  pub either_only : (bs : List ℕ) (x : Either A B) → or_right (p.read bs) (q.read bs) ≡ some x → either_settled x × (either_bytes x ≡ bs)
  either_only bs x e =
      or_right_some (p.read bs) (q.read bs) e
      (λ a d y. subst (λ (x : Either A B). either_settled x × (either_bytes x ≡ bs)) y (p.only bs a d))
      (λ b d y. subst (λ (x : Either A B). either_settled x × (either_bytes x ≡ bs)) y (q.only bs b d))

  abbrev pub either : Whole (Either A B)
  either =
      record {
        refuses = either_refuses;
        settle = either_settle;
        settled = either_settled;
        bytes = either_bytes;
        read = λ bs. or_right (p.read bs) (q.read bs);
        keeps = either_keeps;
        stays = either_stays;
        low = either_low;
        back = either_back;
        only = either_only;
      }

-- ---- what is never written or read: refused

module _ {A : Type 0} (r : Refusal) where
  abbrev pub never : Whole A
  never =
      record {
        refuses = λ a. some r;
        settle = λ a. a;
        settled = λ a. ⊥;
        bytes = λ a. [];
        read = λ bs. none;
        keeps = λ a e. some_none e;
        stays = λ a h. absurd h;
        low = λ a h. absurd h;
        back = λ a h. absurd h;
        only = λ bs a e. absurd (none_some e);
      }
