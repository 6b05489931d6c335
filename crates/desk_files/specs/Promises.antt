-- What listing a file in pieces and mending a sum promise, as propositions: the theorems of proofs/ have these types.
use Rattle.std.specs.Prelude.{◌≡◌, ◌↔◌, List, ℕ, ◌+◌, ◌<◌, length}
use Rattle.util.specs.Limits.{most_stream}
use Rattle.messages.specs.declared.file_reference.Kind.{Kind}
use Rattle.messages.specs.Messages.{answer_number, read_of}
use Rattle.messages.specs.Promises.{IsFrameFor, OtherSum}
use Rattle.messages.specs.Walk.{Listed, frames}
use Rattle.walk.specs.Promises.{stretch}
use Rattle.desk_io.specs.Pieces.{NextPiece}
use Rattle.desk_files.specs.Mend.{mended}

-- "walked in pieces that overlap, so that no frame is lost or listed twice": of the 65,535 bytes from p on, or as many as there are, those frames
-- that begin before the next piece are just the frames of the file that begin there
abbrev pub PieceExact : Type 0
PieceExact =
    (k : Kind) (s : List ℕ) (p r o l : ℕ) → NextPiece (length (stretch s p most_stream)) r → o < r
    → Listed (p + o, l) (frames k s) ↔ Listed (o, l) (frames k (stretch s p most_stream))

-- the mended bytes are the frame of the message that another sum would have made of the bytes
pub record MendedFrame (k : Kind) (bs : List ℕ) : Type 0 where
  pub frame : IsFrameFor k (mended bs)
  pub same : (o : OtherSum k bs) → o.message ≡ frame.message

-- bytes that are refused by SUM are mended to the frame of that message
abbrev pub MendedRead : Type 0
MendedRead = (k : Kind) (bs : List ℕ) → answer_number (read_of k bs) ≡ 9 → MendedFrame k bs
