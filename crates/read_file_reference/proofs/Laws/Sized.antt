-- A context, a length, and what the length counts.
-- Assumes nothing.
use mathlib.Core.Path.{◌≡◌}
use mathlib.Core.Option.{none, some}
use mathlib.Core.List.{List}
use Prim.Native.Nat.{ℕ, ◌^◌, ◌<◌, ◌≤◌}
use native.Mathlib.Omega.{arith}
use lib.ListN.{length, drop}
use borrow.Author.Tests.{eq-eqb, ne_eqb}
use Rattle.util.specs.Groups.{Seven}
use Rattle.messages.specs.format.Core.{Whole}
use Rattle.messages.specs.format.Sequence.{◌⊗w◌}
use Rattle.messages.specs.format.Views.{Names, ◌namedW◌}
use Rattle.messages.specs.format.Tests.{sized}
use Rattle.messages.specs.Fields.{u14}
use Rattle.read_places.specs.Places.{value_at}
use Rattle.read_places.proofs.Laws.Numbers.{unsigned_at}

module _ {M A : Type 0} {count : M → ℕ} (p : Whole M) (short : (a : M) → p.settled a → count a < 128 ^ 2) (names : Names (ℕ × M) A) (f : List ℕ) (s : Seven f) (n : 4 ≤ length f) where
  abbrev sent : Whole A
  sent = u14 ⊗w sized count p short namedW names

  pub sent_none : p.read (drop 4 f) ≡ none → sent.read f ≡ none
  sent_none e = rw (unsigned_at f s 2 0 (omega arith), unsigned_at f s 2 2 (omega arith), e)

  module _ (y : M) (e : p.read (drop 4 f) ≡ some y) where
    pub sent_other : (value_at 2 f 2 ≡ count y → ⊥) → sent.read f ≡ none
    sent_other k = rw (unsigned_at f s 2 0 (omega arith), unsigned_at f s 2 2 (omega arith), e, ne_eqb _ _ k)

    pub sent_reads : value_at 2 f 2 ≡ count y → sent.read f ≡ some (names.from (value_at 2 f 0, y))
    sent_reads v = rw (unsigned_at f s 2 0 (omega arith), unsigned_at f s 2 2 (omega arith), e, eq-eqb _ _ v)
