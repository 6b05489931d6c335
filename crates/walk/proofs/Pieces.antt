-- The frames of a piece of a stream are those of the stream. Assumes nothing.
use mathlib.Core.Path.{◌≡◌, sym, ap, subst, ◌∙◌}
use mathlib.Core.Logic.{⊎_elim}
use mathlib.Core.List.{List}
use Prim.Native.Nat.{ℕ, ◌+◌, ◌-◌, ◌≤◌, min}
use native.Mathlib.Omega.{arith}
use lib.ListN.{length, take, drop, length-take, length-drop}
use lib.Seq.{drop-drop, length-take-le}
use Rattle.util.specs.Limits.{most_frame}
use Rattle.messages.specs.declared.file_reference.Kind.{Kind}
use Rattle.messages.specs.Promises.{IsFrameFor}
use Rattle.messages.proofs.Exact.{frame_shaped}
use Rattle.messages.proofs.Walk.{listed_exactly}
use Rattle.reader.proofs.Laws.Met.{part_of}
use Rattle.walk.specs.Promises.{stretch, PieceLists}
use Rattle.walk.proofs.Longest.{frame_short}

-- a frame has at least six bytes
frame_long : (k : Kind) (l : ℕ) (b : List ℕ) → IsFrameFor k (take l b) → 6 ≤ l
frame_long k l b f =
    omega (arith, (frame_shaped f.message (take l b) f.frame).long, length-take l b)

-- l bytes from o on of n bytes from p on are l bytes from p + o on
same_bytes : (s : List ℕ) (p n o l : ℕ) → o + l ≤ n → stretch (stretch s p n) o l ≡ stretch s (p + o) l
same_bytes s p n o l h = part_of o l n (drop p s) h ∙ ap (take l) (drop-drop o p s)

piece_length : (s : List ℕ) (p n : ℕ) → length (stretch s p n) ≡ min n (length s - p)
piece_length s p n = simp (length-take, length-drop)

pub piece_lists : PieceLists
piece_lists k s p n o l c = (
  λ m.
      let f = (listed_exactly k s (p + o) l).0 m in
      let a : length (stretch s (p + o) l) ≤ most_frame = frame_short k (stretch s (p + o) l) f.1 in
      let b : length (stretch s (p + o) l) ≡ l = length-take-le l (drop (p + o) s) (omega (arith, length-drop (p + o) s)) in
      let h : o + l ≤ n = ⊎_elim (λ e. omega arith) (λ e. omega arith) c in
      (listed_exactly k (stretch s p n) o l).1 (
        omega (arith, piece_length s p n),
        subst (IsFrameFor k) (sym (same_bytes s p n o l h)) f.1,
      ),
  λ m.
      let f = (listed_exactly k (stretch s p n) o l).0 m in
      let i = frame_long k l (drop o (stretch s p n)) f.1 in
      let h : o + l ≤ n = omega (arith, f.0, piece_length s p n) in
      (listed_exactly k s (p + o) l).1 (omega (arith, f.0, piece_length s p n), subst (IsFrameFor k) (same_bytes s p n o l h) f.1),
)
