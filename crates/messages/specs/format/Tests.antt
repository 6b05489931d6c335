-- A refusal of what is out of range, a test on a whole, a count of the bytes that follow.
use Rattle.std.specs.Prelude.{◌≡◌, refl, Bool, true, List, ◌++◌, ℕ, ◌<◌, ◌^◌, eqb, length}
use Rattle.std.proofs.Common.{sym, ap, ◌∙◌, eqb-true, eq-eqb}
use Rattle.std.proofs.Math.Option.{Option, none, some}
use Rattle.util.specs.Groups.{groups}
use Rattle.util.proofs.Laws.Groups.{seven_append, groups_seven}
use Rattle.util.specs.Options.{only_if, unless}
use Rattle.util.proofs.Laws.Options.{none_some, not_some, only_if_some, unless_none}
use Rattle.messages.specs.Types.{Refusal}
use Rattle.messages.specs.Refusals.{least, least_none, none_both}
use Rattle.messages.specs.format.Core.{bind_whole, Part, Whole, bind_whole_some}
use Rattle.messages.specs.format.Numbers.{unsigned}

-- ---- a refusal of a value as it is given, which no settled value meets

module _ {A : Type 0} (n : A → Option Refusal) (p : Part A) (fine : (a : A) → p.settled a → n a ≡ none) where
  abbrev pub refusing : Part A
  refusing =
      record {
        refuses = λ a. least (n a) (p.refuses a);
        settle = p.settle;
        settled = p.settled;
        bytes = p.bytes;
        read = p.read;
        keeps = λ a e. p.keeps a (least_none (n a) (p.refuses a) e).1;
        stays = λ a h. (none_both (fine a h) (p.stays a h).0, (p.stays a h).1);
        low = p.low;
        back = p.back;
        only = p.only;
      }

-- ---- a test on a whole: refused when written, and not read, where it fails

abbrev pub keep_if : {A : Type 0} → (A → Bool) → Option A → Option A
keep_if test none = none
keep_if test (some a) = only_if (test a) (some a)

pub keep_if_some : {A : Type 0} (test : A → Bool) (o : Option A) (a : A) → keep_if test o ≡ some a → (o ≡ some a) × (test a ≡ true)
keep_if_some test none a e = absurd (none_some e)
keep_if_some test (some b) a e = only_if_some (test b) e λ t e₁. let y : b ≡ a = cc in (e₁, rw (← y) t)

module _ {A : Type 0} (r : Refusal) (test : A → Bool) (p : Whole A) (holds : (a : A) → test a ≡ true → test (p.settle a) ≡ true) where
  pub such_keeps : (a : A) → least (unless r (test a)) (p.refuses a) ≡ none → p.settled (p.settle a) × (test (p.settle a) ≡ true)
  such_keeps a e =
      let z = least_none (unless r (test a)) (p.refuses a) e in
      (p.keeps a z.1, holds a (unless_none r (test a) z.0))

  pub such_only : (bs : List ℕ) (a : A) → keep_if test (p.read bs) ≡ some a → (p.settled a × (test a ≡ true)) × (p.bytes a ≡ bs)
  such_only bs a e =
      let k = keep_if_some test (p.read bs) a e in
      let f = p.only bs a k.0 in
      ((f.0, k.1), f.1)

  abbrev pub such : Whole A
  such =
      record {
        refuses = λ a. least (unless r (test a)) (p.refuses a);
        settle = p.settle;
        settled = λ a. p.settled a × (test a ≡ true);
        bytes = p.bytes;
        read = λ bs. keep_if test (p.read bs);
        keeps = such_keeps;
        stays = λ a h. (none_both (ap (unless r) h.1) (p.stays a h.0).0, (p.stays a h.0).1);
        low = λ a h. p.low a h.0;
        back = λ a h. rw (p.back a h.0, h.1);
        only = such_only;
      }

-- ---- a count of the bytes that follow, in two groups, before a whole

module _ {A : Type 0} (count : A → ℕ) (p : Whole A) (short : (a : A) → p.settled a → count a < 128 ^ 2) where
  abbrev pub read_sized : List ℕ → Option A
  read_sized bs = bind_whole ((unsigned 2).read bs) λ n s. keep_if (λ a. eqb n (count a)) (p.read s)

  pub sized_back : (a : A) → p.settled a → read_sized (groups 2 (count a) ++ p.bytes a) ≡ some a
  sized_back a h = rw ((unsigned 2).back (count a) (p.bytes a) (short a h), p.back a h, eq-eqb (count a) _ refl)

  pub sized_only : (bs : List ℕ) (a : A) → read_sized bs ≡ some a → p.settled a × (groups 2 (count a) ++ p.bytes a ≡ bs)
  sized_only bs a e =
      bind_whole_some ((unsigned 2).read bs) _ e λ n s d e₁.
      let k = keep_if_some (λ x. eqb n (count x)) (p.read s) a e₁ in
      let f = p.only s a k.0 in
      (f.0, rw (f.1, ← eqb-true n (count a) k.1) ((unsigned 2).only bs n s d).1)

  abbrev pub sized : Whole A
  sized =
      record {
        refuses = p.refuses;
        settle = p.settle;
        settled = p.settled;
        bytes = λ a. groups 2 (count a) ++ p.bytes a;
        read = read_sized;
        keeps = p.keeps;
        stays = p.stays;
        low = λ a h. seven_append (groups 2 (count a)) (p.bytes a) (groups_seven 2 (count a)) (p.low a h);
        back = sized_back;
        only = sized_only;
      }

-- ---- a format of one length reads nothing of another length

pub other_length : {A : Type 0} (p : Whole A) (n : ℕ) → ((a : A) → length (p.bytes a) ≡ n) → (bs : List ℕ) → (length bs ≡ n → ⊥) → p.read bs ≡ none
other_length p n size bs k = not_some (p.read bs) (λ a e. k (sym (ap length (p.only bs a e).1) ∙ size a))
