-- What the steps of the walk find in a stream and put into an index.
use Rattle.std.specs.Prelude.{◌≡◌, Bool, not, List, [], ◌∷◌, ℕ, ◌+◌, ◌*◌, ◌<◌, ◌≤◌, ltb, eqb, length, get_or, drop, set}
use Rattle.std.specs.List.{prefix_len}
use Rattle.util.specs.Pick.{pick}
use Rattle.messages.specs.declared.file_reference.Kind.{Kind}
use Rattle.messages.specs.Walk.{Stretch, stretches, is_frame}

-- a byte below 128
abbrev pub is_low : ℕ → Bool
is_low b = ltb b 128

-- a byte that begins no frame
abbrev pub not_f0 : ℕ → Bool
not_f0 b = not (eqb b 0xF0)

-- the frames from a place on
abbrev pub from : Kind → List ℕ → ℕ → List Stretch
from k s a = stretches (is_frame k) a (drop a s)

-- a stretch from the F0 at a place to the F7 at e, with bytes below 128 between, the first 7E
pub record Closed (s : List ℕ) (start e : ℕ) : Type 0 where
  pub first : get_or s start 0 ≡ 0xF0
  pub second : get_or s (start + 1) 0 ≡ 0x7E
  pub ends : e ≡ (start + 1) + prefix_len is_low (drop (start + 1) s)
  pub fits : e < length s
  pub last : get_or s e 0 ≡ 0xF7

-- a reading from a place: no frame begins before the start that it answers, and there a stretch is closed, or the stream has ended
pub record Reached (s : List ℕ) (at start e : ℕ) : Type 0 where
  pub ahead : at ≤ start
  pub same : (k : Kind) → from k s at ≡ from k s start
  pub closed : start < length s → Closed s start e

-- no frame begins from a place on
abbrev pub NoneFrom : List ℕ → ℕ → Type 0
NoneFrom s at = (k : Kind) → from k s at ≡ []

-- the first stretch from a place on at which a frame may begin, and which is closed
pub record StretchFrom (s : List ℕ) (at start e : ℕ) : Type 0 where
  pub reached : Reached s at start e
  pub closed : Closed s start e

-- an index with the pair of place n, where there is room for it
unfoldable pub put : List ℕ → ℕ → ℕ → ℕ → List ℕ
put ix n o l = pick (ltb (n * 2 + 1) (length ix)) (set (set ix (n * 2) o) (n * 2 + 1) l) ix

-- an index with the pairs from place n on, as far as there is room
unfoldable pub put_all : List ℕ → ℕ → List Stretch → List ℕ
put_all ix n [] = ix
put_all ix n (y ∷ ys) = put_all (put ix n y.0 y.1) (n + 1) ys
