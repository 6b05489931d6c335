-- The parts of a file that are visited: its pieces in turn, and the frames of a piece in turn.
use Rattle.std.specs.Prelude.{◌≡◌, ◌⊎◌, Bool, true, false, ◌&&◌, List, [], ◌∷◌, ◌++◌, ℕ, ◌+◌, ◌/◌, ◌≤◌, ◌<◌, min, ltb, leb, length, drop, map}
use Rattle.std.specs.List.{FoldsTo}
use Rattle.util.specs.Limits.{most_stream}
use Rattle.util.specs.Pick.{pick}
use Rattle.messages.specs.declared.file_reference.Kind.{Kind}
use Rattle.messages.specs.Walk.{Stretch, frames}
use Rattle.walk.specs.Answer.{how_many}
use Rattle.walk.specs.Promises.{stretch}
use Rattle.desk_io.specs.Pieces.{NextPiece}
use Rattle.desk_files.specs.declared.frames.Part.{Part}

-- a part of a file, told by its offset and its bytes
abbrev pub Shown : Type 0
Shown = ℕ × List ℕ

-- what is seen of a visited part
abbrev pub shown : Part → Shown
shown p = (p.offset, p.bytes.now)

-- a stretch of a piece that has an offset in its file, which is counted up to the largest number
abbrev pub part_at : List ℕ → ℕ → Stretch → Shown
part_at s o y = (min (o + y.0) 18446744073709551615, stretch s y.0 y.1)

-- the stretches that begin before a place, as parts of a file
unfoldable pub parts_before : List ℕ → ℕ → ℕ → List Stretch → List Shown
parts_before s o r [] = []
parts_before s o r (y ∷ ys) = pick (ltb y.0 r) (part_at s o y ∷ parts_before s o r ys) (parts_before s o r ys)

-- the frames of a piece that begin before a place, where the walk lists them in an index of so many numbers; else none
unfoldable pub frames_before : Kind → List ℕ → ℕ → ℕ → ℕ → List Shown
frames_before k s o r room =
    pick (leb (length s) most_stream && leb (how_many k s) (room / 2)) (parts_before s o r (frames k s)) []

-- calls from f on visited, in turn, the frames of a piece that begin before the next piece
abbrev pub VisitsFrames : {F : Type 0} → (F → Part → F → Type 0) → F → Kind → List ℕ → ℕ → ℕ → Type 0
VisitsFrames {F} step f k s o room =
    (r : ℕ) × NextPiece (length s) r × ((ps : List Part) × (last : F) × FoldsTo step f ps last × (map shown ps ≡ frames_before k s o r room))

-- what follows the visit of a piece with these bytes, which answered b: none where no more is wanted or the piece is not whole; a read that fails;
-- or the next piece, from its place on, with the bytes of it that are read already
abbrev pub Follows : List ℕ → Bool → Bool → List Part → (ℕ → List ℕ → Type 0) → Type 0
Follows bs b is_read ps next =
    (((b ≡ false) ⊎ (length bs < most_stream)) × (is_read ≡ true) × (ps ≡ []))
    ⊎ (((b ≡ true) × (most_stream ≤ length bs))
    × (((is_read ≡ false) × (ps ≡ [])) ⊎ ((r : ℕ) × NextPiece (length bs) r × ((more : List ℕ) × next r (drop r bs ++ more)))))

-- the pieces of a file are visited in turn from number n on, where the first has these bytes at an offset; nothing says that a file ends, so that the
-- numbers end below 2 ^ 64 - 1
abbrev pub InTurn : {F : Type 0} → (F → ℕ → Part → Bool → F → Type 0) → F → ℕ → ℕ → List ℕ → List Part → Bool → Type 0
InTurn step f n o bs [] is_read = (n ≡ 18446744073709551615) × (is_read ≡ true)
InTurn {F} step f n o bs (p ∷ ps) is_read =
    (shown p ≡ (o, bs)) × ((b : Bool) × (g : F) × step f n p b g
    × Follows bs b is_read ps (λ r t. InTurn step g (n + 1) (min (o + r) 18446744073709551615) t ps is_read))

-- calls from f on visited the pieces of a file from the first on, which has these bytes at an offset
abbrev pub VisitsPieces : {F : Type 0} → (F → ℕ → Part → Bool → F → Type 0) → F → ℕ → List ℕ → Bool → Type 0
VisitsPieces step f o bs is_read = (ps : List Part) × InTurn step f 0 o bs ps is_read
