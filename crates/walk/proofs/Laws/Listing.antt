-- What `walk::list` has put and counted: with the frames from a place on, it is what is to be put and counted. Assumes nothing.
use mathlib.Core.Path.{◌≡◌, refl, sym, ap, ◌∙◌}
use mathlib.Core.Bool.{true, false}
use mathlib.Core.List.{List, [], ◌∷◌}
use Prim.Native.Nat.{ℕ, zero-le, ◌+◌, ◌*◌, ◌-◌, ◌≤◌, ◌<◌}
use native.Mathlib.Omega.{arith}
use native.Mathlib.Nat.{zero-add, add-zero}
use lib.ListN.{length, take, drop}
use Rattle.messages.specs.declared.file_reference.Kind.{Kind}
use Rattle.messages.specs.Walk.{Stretch, frames, is_frame}
use Rattle.messages.proofs.Walk.{frame_encloses}
use Rattle.walk.specs.Steps.{from, Reached, put, put_all}
use Rattle.walk.proofs.Laws.Frames.{pass_one, open_yes, open_no}
use Rattle.walk.proofs.Laws.Shape.{frame_long, long_is}
use Rattle.walk.proofs.Laws.Index.{put_length}

pub record Going (k : Kind) (s ix₀ ix : List ℕ) (n at : ℕ) : Type 0 where
  pub within : at ≤ length s
  pub few : n * 6 ≤ at
  pub long : length ix ≡ length ix₀
  pub rest : put_all ix₀ 0 (frames k s) ≡ put_all ix n (from k s at)
  pub all : length (frames k s) ≡ n + length (from k s at)

pub going_start : (k : Kind) (s ix : List ℕ) → Going k s ix ix 0 0
going_start k s ix = record {
  within = zero-le;
  few = zero-le;
  long = refl;
  rest = refl;
  all = sym (zero-add (length (frames k s)));
}

-- a turn that reaches a closed stretch
module _ (k : Kind) (s ix₀ ix : List ℕ) (n at start e : ℕ) (g : Going k s ix₀ ix n at) (r : Reached s at start e) (h : start < length s) where
  -- which is a frame
  pub going_on : is_frame k (take (e + 1 - start) (drop start s)) ≡ true → (ix' : List ℕ) (n' : ℕ) → ix' ≡ put ix n start (e + 1 - start) → n' ≡ n + 1
      → Going k s ix₀ ix' n' (e + 1)
  unfolding put_all
  going_on y ix' n' p m =
      let c = r.closed h in
      let f : from k s at ≡ (start, e + 1 - start) ∷ from k s (e + 1) = r.same k ∙ open_yes (is_frame k) (frame_encloses k) s start e h c.ends y in
      rw m record {
        within = omega (arith, c.fits);
        few = omega (arith, g.few, r.ahead, frame_long k (take (e + 1 - start) (drop start s)) y, long_is k s start e h c.ends c.fits);
        long = ap length p ∙ put_length ix n start (e + 1 - start) ∙ g.long;
        rest = g.rest ∙ ap (put_all ix n) f ∙ ap (λ (l : List ℕ). put_all l (n + 1) (from k s (e + 1))) (sym p);
        all = g.all ∙ ap (λ (l : List Stretch). n + length l) f ∙ omega arith;
      }

  -- which is none
  pub going_past : is_frame k (take (e + 1 - start) (drop start s)) ≡ false → (ix' : List ℕ) (n' : ℕ) → ix' ≡ ix → n' ≡ n → Going k s ix₀ ix' n' (e + 1)
  going_past y ix' n' p m =
      let c = r.closed h in
      let f : from k s at ≡ from k s (e + 1) =
      r.same k
      ∙ open_no (is_frame k) (frame_encloses k) s start e h c.ends y
      ∙ pass_one (is_frame k) (frame_encloses k) s e c.fits (λ x. omega (arith, c.last)) in
      rw (p, m) record {
        within = omega (arith, c.fits);
        few = omega (arith, g.few, r.ahead, c.ends);
        long = g.long;
        rest = g.rest ∙ ap (put_all ix n) f;
        all = g.all ∙ ap (λ (l : List Stretch). n + length l) f;
      }

-- no frame is left
pub going_done : (k : Kind) (s ix₀ ix : List ℕ) (n at : ℕ) → Going k s ix₀ ix n at → from k s at ≡ []
    → (n ≡ length (frames k s)) × ((n * 6 ≤ length s) × (ix ≡ put_all ix₀ 0 (frames k s)))
unfolding put_all
going_done k s ix₀ ix n at g f = (
  sym (g.all ∙ ap (λ (x : List Stretch). n + length x) f ∙ add-zero n),
  (omega (arith, g.few, g.within), sym (g.rest ∙ ap (put_all ix n) f)),
)
