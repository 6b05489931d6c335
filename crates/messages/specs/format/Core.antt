-- What a format is: how a value is refused, settled, written as bytes and read back, with the laws that tie these.
-- A Part stands before other bytes, and its reading hands on what follows it; a Whole takes all the bytes that are left.
use Rattle.std.specs.Prelude.{◌≡◌, refl, Bool, true, false, List, ◌++◌, ℕ}
use Rattle.std.proofs.Math.Option.{Option, none, some}
use Rattle.std.proofs.Common.{arith}
use Rattle.util.specs.Groups.{Seven}
use Rattle.util.proofs.Laws.Options.{none_some}
use Rattle.messages.specs.Types.{Refusal}

-- what reading a part comes to: nothing that fits, or a value and the bytes after it
pub data Got (A : Type 0) : Type 0 where
  bad : Got A
  got : A → List ℕ → Got A

-- refuses: the refusal of contents. settle: the value with what is held, cut or filled. settled: nothing is.
-- bytes: what is written. read: the value that bytes are. Then the laws:
-- what is not refused settles; a settled value is not refused and stays; its bytes are below 128;
-- they read back as it; and whatever reads as a value is that settled value's bytes.
pub record Part (A : Type 0) : Type 1 where
  pub refuses : A → Option Refusal
  pub settle : A → A
  pub settled : A → Type 0
  pub bytes : A → List ℕ
  pub read : List ℕ → Got A
  pub keeps : (a : A) → refuses a ≡ none → settled (settle a)
  pub stays : (a : A) → settled a → (refuses a ≡ none) × (settle a ≡ a)
  pub low : (a : A) → settled a → Seven (bytes a)
  pub back : (a : A) (r : List ℕ) → settled a → read (bytes a ++ r) ≡ got a r
  pub only : (bs : List ℕ) (a : A) (r : List ℕ) → read bs ≡ got a r → settled a × (bytes a ++ r ≡ bs)

pub record Whole (A : Type 0) : Type 1 where
  pub refuses : A → Option Refusal
  pub settle : A → A
  pub settled : A → Type 0
  pub bytes : A → List ℕ
  pub read : List ℕ → Option A
  pub keeps : (a : A) → refuses a ≡ none → settled (settle a)
  pub stays : (a : A) → settled a → (refuses a ≡ none) × (settle a ≡ a)
  pub low : (a : A) → settled a → Seven (bytes a)
  pub back : (a : A) → settled a → read (bytes a) ≡ some a
  pub only : (bs : List ℕ) (a : A) → read bs ≡ some a → settled a × (bytes a ≡ bs)

-- the bytes that are written of a value
abbrev pub written : {A : Type 0} → Part A → A → List ℕ
written p a = p.bytes (p.settle a)

-- ---- readings one after another

abbrev pub guard : {A : Type 0} → Bool → Got A → Got A
guard true g = g
guard false g = bad

abbrev pub bind : {A B : Type 0} → Got A → (A → List ℕ → Got B) → Got B
bind bad k = bad
bind (got a r) k = k a r

abbrev pub bind_whole : {A B : Type 0} → Got A → (A → List ℕ → Option B) → Option B
bind_whole bad k = none
bind_whole (got a r) k = k a r

-- ---- what a reading that came to something tells; each hands on what it finds

pub bad_got : {A : Type 0} {a : A} {r : List ℕ} → bad ≡ got a r → ⊥
bad_got e = let z : ◌≡◌ {A = ℕ} 0 1 = cc in omega arith

pub guard_got : {A C : Type 0} (t : Bool) {g : Got A} {a : A} {r : List ℕ} → guard t g ≡ got a r → (t ≡ true → g ≡ got a r → C) → C
guard_got true e k = k refl e
guard_got false e k = absurd (bad_got e)

pub bind_got : {A B C : Type 0} (g : Got A) (f : A → List ℕ → Got B) {b : B} {r : List ℕ} → bind g f ≡ got b r
    → ((a : A) (s : List ℕ) → g ≡ got a s → f a s ≡ got b r → C) → C
bind_got bad f e k = absurd (bad_got e)
bind_got (got a s) f e k = k a s refl e

pub bind_whole_some : {A B C : Type 0} (g : Got A) (f : A → List ℕ → Option B) {b : B} → bind_whole g f ≡ some b
    → ((a : A) (s : List ℕ) → g ≡ got a s → f a s ≡ some b → C) → C
bind_whole_some bad f e k = absurd (none_some e)
bind_whole_some (got a s) f e k = k a s refl e
