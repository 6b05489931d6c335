-- The frames of a stream (01, "Reading and the walk"), over any frame test.
use Rattle.std.specs.Prelude.{◌≡◌, ◌⊎◌, Bool, true, false, List, [], ◌∷◌, ℕ, suc, ◌-◌, ◌<◌, ltb, leb, take}
use Rattle.messages.specs.Types.{Kind}
use Rattle.util.specs.Pick.{pick}
use Rattle.messages.specs.Messages.{Answer, refused, given, read_of}

-- "A stretch is a part of the stream, told by offset and length"
abbrev pub Stretch : Type 0
Stretch = ℕ × ℕ

-- how many bytes below 128 a list begins with
unfoldable pub low_run : List ℕ → ℕ
low_run [] = 0
low_run (b ∷ r) = pick (ltb b 128) (suc (low_run r)) 0

-- the length of the one stretch from the start of b ∷ r that can be a frame: up to the first byte of r that is not below 128
abbrev pub reach : List ℕ → ℕ
reach r = suc (suc (low_run r))

-- the stretches of a stream, whose first byte has the offset o, that pass the test
unfoldable pub stretches : (List ℕ → Bool) → ℕ → List ℕ → List Stretch
stretches test o [] = []
stretches test o (b ∷ r) = pick (test (take (reach r) (b ∷ r))) ((o, reach r) ∷ stretches test (suc o) r) (stretches test (suc o) r)

abbrev pub is_given : {A : Type 0} → Answer A → Bool
is_given (refused r) = false
is_given (given a) = true

-- whether bytes are a frame for a kind
unfoldable pub is_frame : Kind → List ℕ → Bool
is_frame k bs = is_given (read_of k bs)

-- the frames of a stream for a kind
abbrev pub frames : Kind → List ℕ → List Stretch
frames k s = stretches (is_frame k) 0 s

-- a stretch stands in a list
abbrev pub Listed : Stretch → List Stretch → Type 0
Listed x [] = ⊥
Listed x (y ∷ ys) = (x ≡ y) ⊎ Listed x ys

-- every offset is above o
abbrev pub Above : ℕ → List Stretch → Type 0
Above o [] = Unit
Above o (y ∷ ys) = (o < y.0) × Above o ys

-- "by rising offset, each such stretch once"
abbrev pub Rising : List Stretch → Type 0
Rising [] = Unit
Rising (y ∷ ys) = Above y.0 ys × Rising ys

-- the pairs from the offset a on, "offsets counted from" there
unfoldable pub since : ℕ → List Stretch → List Stretch
since a [] = []
since a (y ∷ ys) = pick (leb a y.0) ((y.0 - a, y.1) ∷ since a ys) (since a ys)
