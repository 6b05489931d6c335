-- The same bytes for values of another type: through a value that is written, or under names.
use Rattle.std.specs.Prelude.{◌≡◌, List, ◌++◌, ℕ}
use Rattle.std.proofs.Common.{subst, ap}
use Rattle.std.proofs.Math.Option.{none, some}
use Rattle.util.specs.Options.{map_option}
use Rattle.util.proofs.Laws.Options.{map_option_some}
use Rattle.messages.specs.format.Core.{Got, got, bind, Part, Whole, bind_got}

-- ---- the same bytes for another type: `to` gives the value that is written, `from` the value that is read

module _ {A B : Type 0} (to : B → A) (from : A → B) (p : Part A) (same : (a : A) → p.settled a → to (from a) ≡ a) where
  abbrev pub via_settled : B → Type 0
  via_settled b = p.settled (to b) × (from (to b) ≡ b)

  abbrev pub via_read : List ℕ → Got B
  via_read bs = bind (p.read bs) λ a r. got (from a) r

  from_settled : (a : A) → p.settled a → via_settled (from a)
  from_settled a h = (rw (same a h) h, ap from (same a h))

  pub via_keeps : (b : B) → p.refuses (to b) ≡ none → via_settled (from (p.settle (to b)))
  via_keeps b e = from_settled (p.settle (to b)) (p.keeps (to b) e)

  pub via_stays : (b : B) → via_settled b → (p.refuses (to b) ≡ none) × (from (p.settle (to b)) ≡ b)
  via_stays b h = ((p.stays (to b) h.0).0, rw (p.stays (to b) h.0).1 h.1)

  pub via_back : (b : B) (r : List ℕ) → via_settled b → via_read (p.bytes (to b) ++ r) ≡ got b r
  via_back b r h = rw (p.back (to b) r h.0, h.1)

  pub via_only : (bs : List ℕ) (b : B) (r : List ℕ) → via_read bs ≡ got b r → via_settled b × (p.bytes (to b) ++ r ≡ bs)
  via_only bs b r e =
      bind_got (p.read bs) _ e λ a s d e₁.
      let y : from a ≡ b = cc in
      let z : s ≡ r = cc in
      let f = p.only bs a s d in
      subst (λ (b : B). via_settled b × (p.bytes (to b) ++ r ≡ bs)) y
      (from_settled a f.0, rw (same a f.0, ← z) f.1)

  abbrev pub via : Part B
  via =
      record {
        refuses = λ b. p.refuses (to b);
        settle = λ b. from (p.settle (to b));
        settled = via_settled;
        bytes = λ b. p.bytes (to b);
        read = via_read;
        keeps = via_keeps;
        stays = via_stays;
        low = λ b h. p.low (to b) h.0;
        back = via_back;
        only = via_only;
      }

-- ---- the same bytes under names: `to` and `from` are exact both ways

pub record Names (A B : Type 0) : Type 0 where
  pub to : B → A
  pub from : A → B
  pub to_from : (a : A) → to (from a) ≡ a
  pub from_to : (b : B) → from (to b) ≡ b

abbrev pub names : {A B : Type 0} (to : B → A) (from : A → B) → ((a : A) → to (from a) ≡ a) → ((b : B) → from (to b) ≡ b) → Names A B
names to from e f = record { to = to; from = from; to_from = e; from_to = f }

infixl 50 ◌named◌
abbrev pub ◌named◌ : {A B : Type 0} → Part A → Names A B → Part B
p named n = via n.to n.from p (λ a h. n.to_from a)

module _ {A B : Type 0} (p : Whole A) (n : Names A B) where
  pub named_whole_only : (bs : List ℕ) (b : B) → map_option n.from (p.read bs) ≡ some b → p.settled (n.to b) × (p.bytes (n.to b) ≡ bs)
  named_whole_only bs b e =
      map_option_some n.from (p.read bs) e λ a d y.
      subst (λ (b : B). p.settled (n.to b) × (p.bytes (n.to b) ≡ bs)) y (rw (n.to_from a) (p.only bs a d))

  infixl 50 ◌namedW◌
  abbrev pub ◌namedW◌ : Whole B
  ◌namedW◌ =
      record {
        refuses = λ b. p.refuses (n.to b);
        settle = λ b. n.from (p.settle (n.to b));
        settled = λ b. p.settled (n.to b);
        bytes = λ b. p.bytes (n.to b);
        read = λ bs. map_option n.from (p.read bs);
        keeps = λ b e. rw (n.to_from (p.settle (n.to b))) (p.keeps (n.to b) e);
        stays = λ b h. ((p.stays (n.to b) h).0, rw (p.stays (n.to b) h).1 (n.from_to b));
        low = λ b h. p.low (n.to b) h;
        back = λ b h. rw (p.back (n.to b) h) (ap some (n.from_to b));
        only = named_whole_only;
      }
