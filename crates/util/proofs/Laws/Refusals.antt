-- A refusal's number is its own, and not 0.
-- Assumes nothing.
use mathlib.Core.Path.{◌≡◌, refl, sym, ap, ◌∙◌}
use Prim.Native.Nat.{ℕ, ◌≤◌}
use native.Mathlib.Omega.{arith}
use lib.Dec.{eqb}
use Rattle.util.specs.Pick.{pick}
use Rattle.util.specs.declared.refusal.Refusal.{Refusal}
use Rattle.util.specs.declared.refusal.Refusal.TheVariants.{High, Long, Value, Kind, Space, Shape, Head, Field, Sum, Hold, Stream, Index, UnexpectedEnd, ByteOverflow, NotImplemented}
use Rattle.util.specs.Refusals.{number}

pub number_some : (r : Refusal) → 1 ≤ number r
number_some =
    elim [ High ↦ omega arith | Long ↦ omega arith | Value ↦ omega arith | Kind ↦ omega arith | Space ↦ omega arith | Shape ↦ omega arith | Head ↦ omega arith | Field ↦ omega arith | Sum ↦ omega arith | Hold ↦ omega arith | Stream ↦ omega arith | Index ↦ omega arith | UnexpectedEnd ↦ omega arith | ByteOverflow ↦ omega arith | NotImplemented ↦ omega arith ]

-- the refusal of a number
abbrev numbered : ℕ → Refusal
numbered n =
    pick (eqb n 1) High (pick (eqb n 2) Long (pick (eqb n 3) Value (pick (eqb n 4) Kind (pick (eqb n 5) Space
    (pick (eqb n 6) Shape (pick (eqb n 7) Head (pick (eqb n 8) Field (pick (eqb n 9) Sum (pick (eqb n 10) Hold
    (pick (eqb n 11) Stream (pick (eqb n 12) Index (pick (eqb n 13) UnexpectedEnd (pick (eqb n 14) ByteOverflow NotImplemented)))))))))))))

numbered_back : (r : Refusal) → numbered (number r) ≡ r
numbered_back =
    elim [ High ↦ refl | Long ↦ refl | Value ↦ refl | Kind ↦ refl | Space ↦ refl | Shape ↦ refl | Head ↦ refl | Field ↦ refl | Sum ↦ refl | Hold ↦ refl | Stream ↦ refl | Index ↦ refl | UnexpectedEnd ↦ refl | ByteOverflow ↦ refl | NotImplemented ↦ refl ]

pub number_only : (r s : Refusal) → number r ≡ number s → r ≡ s
number_only r s e = sym (numbered_back r) ∙ ap numbered e ∙ numbered_back s
