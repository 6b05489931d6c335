-- The pieces of a file list its frames, each once; bytes refused by SUM are mended to the frame that another sum makes. Assumes nothing.
use mathlib.Core.Path.{◌≡◌, sym, ap, ◌∙◌}
use mathlib.Core.Logic.{◌⊎◌, inl, inr, ⊎_elim}
use mathlib.Core.List.{List}
use Prim.Native.Nat.{ℕ, ◌+◌, ◌≤◌, ◌<◌}
use native.Mathlib.Omega.{arith}
use lib.Dec.{leb}
use borrow.Author.Tests.{leb-true, leb-false}
use Rattle.util.specs.Limits.{most_frame, most_stream}
use Rattle.util.specs.Checksum.{checksum}
use Rattle.messages.specs.declared.file_reference.Kind.{Kind}
use Rattle.messages.specs.Messages.{given, body, framed}
use Rattle.messages.specs.Promises.{IsFrame, checked, OtherSum}
use Rattle.std.proofs.lemmas.Bool.{cases_Bool}
use Rattle.messages.proofs.Exact.{write_settled, frame_unique}
use Rattle.messages.proofs.Sums.{checked_same, summed_frame, sum_exactly}
use lib.ListN.{length, drop, length-take, length-drop}
use Rattle.walk.specs.Promises.{stretch}
use Rattle.walk.proofs.Pieces.{piece_lists}
use Rattle.desk_io.specs.Pieces.{NextPiece}
use Rattle.desk_files.specs.Mend.{mended}
use Rattle.desk_files.specs.Promises.{PieceExact, MendedRead}
use Rattle.desk_files.proofs.Laws.Mend.{mended_checked}

-- the piece is the last, or there are 1,292 bytes of it from o on
ends_or_whole : (s : List ℕ) (p r o : ℕ) → NextPiece (length (stretch s p most_stream)) r → o < r → (o + most_frame ≤ most_stream) ⊎ (length s ≤ p + most_stream)
ends_or_whole s p r o h q =
    ⊎_elim
    (λ a. inr (leb-true (length s) (p + most_stream) a))
    (λ a.
    let b : p + most_stream < length s = leb-false (length s) (p + most_stream) a in
    let e : most_stream ≤ length (stretch s p most_stream) = omega (arith, length-take most_stream (drop p s), length-drop p s) in
    inl (omega (arith, h.whole o most_frame e q (omega arith), length-take most_stream (drop p s))))
    (cases_Bool (leb (length s) (p + most_stream)))

pub piece_exact : PieceExact
piece_exact k s p r o l h q = piece_lists k s p most_stream o l (ends_or_whole s p r o h q)

-- the sum that makes a frame is the checksum of what is summed
other_due : (k : Kind) (bs : List ℕ) (o : OtherSum k bs) → o.other ≡ checksum o.summed_bytes
other_due k bs o =
    let m = o.message in
    let g : given (framed m) ≡ given (checked o.summed_bytes o.other) = sym (write_settled m o.settled.settled) ∙ o.right in
    let f : framed m ≡ checked o.summed_bytes o.other = cc in
    let i = checked_same (body m) o.summed_bytes (checksum (body m)) o.other (sym (summed_frame m o.head_sums) ∙ f) in
    sym i.1 ∙ ap checksum i.0

mended_frame : (k : Kind) (bs : List ℕ) (o : OtherSum k bs) → IsFrame o.message (mended bs)
mended_frame k bs o =
    let e : mended bs ≡ checked o.summed_bytes o.other =
    ap mended (sym o.is) ∙ mended_checked o.summed_bytes o.sum ∙ ap (checked o.summed_bytes) (sym (other_due k bs o)) in
    o.right ∙ ap given (sym e)

pub mended_read : MendedRead
mended_read k bs h =
    let o = (sum_exactly k bs).0 h in
    record {
      frame = record { message = o.message; settled = o.settled; frame = mended_frame k bs o };
      same = λ p. frame_unique k p.message o.message (mended bs) p.settled o.settled (mended_frame k bs p) (mended_frame k bs o);
    }
