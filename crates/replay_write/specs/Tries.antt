-- What a try of a write has shown.
use Rattle.std.specs.Prelude.{◌≡◌, List, [], ℕ, length, take, replicate, Result}
use Rattle.util.specs.Splice.{splice}
use Rattle.std.specs.Borrow.{MutBor}
use Rattle.util.specs.declared.refusal.Refusal.{Refusal}
use Rattle.writer.specs.Write.{written_number, written_value}

-- a write was called with so many bytes of output and a place, and answered with the number of a refusal or, where that is 0, with the length of the frame,
-- which stands at the place, and all else is as it was
pub record Tried (post : MutBor (List ℕ) → ℕ → Result ℕ Refusal → MutBor (List ℕ) → Type 0) (size place refusal : ℕ) (frame : List ℕ) : Type 0 where
  pub before : MutBor (List ℕ)
  pub after : MutBor (List ℕ)
  pub answer : Result ℕ Refusal
  pub answers : post before place answer after
  pub room : length before.now ≡ size
  pub number_is : written_number answer ≡ refusal
  pub length_is : refusal ≡ 0 → written_value answer ≡ length frame
  pub left : after.now ≡ take size (splice (replicate 4096 0xA5) place frame)

-- a case's refusal was tried with room, and a frame with just enough room
abbrev pub Answered : (MutBor (List ℕ) → ℕ → Result ℕ Refusal → MutBor (List ℕ) → Type 0) → ℕ → List ℕ → Type 0
Answered post refusal frame = (refusal ≡ 0 → Tried post (length frame) 0 0 frame) × ((refusal ≡ 0 → ⊥) → Tried post 4096 3 refusal [])
