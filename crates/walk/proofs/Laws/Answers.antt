-- The three answers of the walk, and the index after each. Assumes nothing.
use mathlib.Core.Path.{◌≡◌, refl, ap, ◌∙◌}
use mathlib.Core.List.{List, [], ◌∷◌, ◌++◌}
use Prim.Native.Nat.{ℕ, ◌/◌, ◌≤◌, ◌<◌}
use native.Mathlib.Omega.{arith}
use lib.ListN.{length}
use borrow.Author.Tests.{lt-ltb, le-ltb}
use Rattle.util.specs.Limits.{most_stream}
use Rattle.util.specs.Splice.{overwritten}
use Rattle.messages.specs.declared.file_reference.Kind.{Kind}
use Rattle.messages.specs.Walk.{frames}
use Rattle.std.specs.Prelude.{Ok, Err}
use Rattle.walk.specs.declared.WalkError.TheVariants.{Stream, Index}
use Rattle.walk.specs.Steps.{put_all}
use Rattle.walk.specs.Answer.{flat, how_many, answer, after, WalkMet}
use Rattle.walk.proofs.Laws.Index.{put_all_flat}

module _ (k : Kind) (s ix : List ℕ) where
  pub too_long : most_stream < length s → (Err Stream ≡ answer k s ix) × (ix ≡ after k s ix)
  unfolding answer after
  too_long h = (simp (lt-ltb _ _ h), simp (lt-ltb _ _ h))

  pub too_many : length s ≤ most_stream → length ix / 2 < how_many k s → (Err (Index (how_many k s)) ≡ answer k s ix) × (ix ≡ after k s ix)
  unfolding answer after
  too_many h m = (simp (le-ltb _ _ h, lt-ltb _ _ m), simp (le-ltb _ _ h, lt-ltb _ _ m))

  pub enough : length s ≤ most_stream → how_many k s ≤ length ix / 2 → (Ok (how_many k s) ≡ answer k s ix) × (overwritten (flat (frames k s)) ix ≡ after k s ix)
  unfolding answer after
  enough h m = (simp (le-ltb _ _ h, le-ltb _ _ m), simp (le-ltb _ _ h, le-ltb _ _ m))

  -- the same, as the contract has it

  pub met_long : most_stream < length s → WalkMet (Err Stream) k s ix ix
  met_long h = let p = too_long h in record { says = p.0; index_is = p.1 }

  pub met_many : length s ≤ most_stream → (n : ℕ) → n ≡ how_many k s → length ix / 2 < n → WalkMet (Err (Index n)) k s ix ix
  met_many h n q m =
      let p = too_many h (rw q at m) in
      record { says = ap (λ (m : ℕ). Err (Index m)) q ∙ p.0; index_is = p.1 }

  pub met_enough : length s ≤ most_stream → (n : ℕ) → n ≡ how_many k s → n ≤ length ix / 2 → (ix' : List ℕ) → ix' ≡ put_all ix 0 (frames k s)
      → WalkMet (Ok n) k s ix ix'
  met_enough h n q m ix' e =
      let p = enough h (rw q at m) in
      record { says = ap Ok q ∙ p.0; index_is = e ∙ put_all_flat ix (frames k s) (omega (arith, rw q at m)) ∙ p.1 }

-- a part of no length is empty, so what stands before the rest of an index is nothing
pub no_part : (p ix : List ℕ) → length p ≡ 0 → p ++ ix ≡ ix
no_part [] ix e = refl
no_part (x ∷ p) ix e = absurd (omega arith)
