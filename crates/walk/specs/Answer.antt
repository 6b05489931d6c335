-- What the walk answers, and what the index holds after it (01, "Reading and the walk", rows 11 and 12).
use Rattle.std.specs.Prelude.{◌≡◌, List, [], ◌∷◌, ℕ, zero, suc, ◌/◌, ltb, length, Result, Ok, Err}
use Rattle.util.specs.Limits.{most_stream}
use Rattle.util.specs.Pick.{pick}
use Rattle.util.specs.Splice.{overwritten}
use Rattle.util.specs.Refusals.{number}
use Rattle.util.specs.declared.refusal.Refusal.{Refusal}
use Rattle.util.specs.declared.refusal.Refusal.TheVariants.{Stream, Index}
use Rattle.messages.specs.declared.file_reference.Kind.{Kind}
use Rattle.messages.specs.Walk.{Stretch, frames}
use Rattle.walk.specs.declared.WalkError.{WalkError}
use Rattle.walk.specs.declared.WalkError.TheVariants as error

-- what the walk answers: the number of frames, or an error
abbrev pub Walked : Type 0
Walked = Result ℕ WalkError

-- the refusal that an error is: 11 STREAM, 12 INDEX
abbrev pub refusal_of : WalkError → Refusal
refusal_of error.Stream = Stream
refusal_of (error.Index n) = Index

-- 01's number of an answer: "Where nothing is refused the number is 0"
abbrev pub walked_number : Walked → ℕ
walked_number (Ok n) = 0
walked_number (Err e) = number (refusal_of e)

-- 01's value of an answer: "the walk the number of frames"; under a refusal the column "Answer besides the number"
abbrev pub walked_value : Walked → ℕ
walked_value (Ok n) = n
walked_value (Err error.Stream) = 0
walked_value (Err (error.Index n)) = n

-- the numbers of an index for a list of stretches: "The index holds pairs of offset and length"
unfoldable pub flat : List Stretch → List ℕ
flat [] = []
flat (y ∷ ys) = y.0 ∷ y.1 ∷ flat ys

-- the first n pairs of an index
unfoldable pub pairs : ℕ → List ℕ → List Stretch
pairs zero l = []
pairs (suc n) [] = []
pairs (suc n) (o ∷ []) = []
pairs (suc n) (o ∷ l ∷ r) = (o, l) ∷ pairs n r

-- the number of frames in a stream
abbrev pub how_many : Kind → List ℕ → ℕ
how_many k s = length (frames k s)

-- 11 STREAM: "more than 65,535 bytes"; 12 INDEX: "fewer whole pairs than frames", with the "number of frames"
unfoldable pub answer : Kind → List ℕ → List ℕ → Walked
answer k s ix =
    pick (ltb most_stream (length s)) (Err error.Stream) (pick (ltb (length ix / 2) (how_many k s)) (Err (error.Index (how_many k s))) (Ok (how_many k s)))

-- the pairs from the index's start; "numbers past the last pair keep their values", and all of them under a refusal
unfoldable pub after : Kind → List ℕ → List ℕ → List ℕ
after k s ix = pick (ltb most_stream (length s)) ix (pick (ltb (length ix / 2) (how_many k s)) ix (overwritten (flat (frames k s)) ix))

-- a walk over s for the kind k that was lent the index ix: what it answers, and the index ix' that it leaves
pub record WalkMet (r : Walked) (k : Kind) (s ix ix' : List ℕ) : Type 0 where
  pub says : r ≡ answer k s ix
  pub index_is : ix' ≡ after k s ix
