-- Laws of mended bytes: those of a checked frame, and what a store into a copy leaves.
-- Assumes nothing.
use mathlib.Core.Path.{◌≡◌, sym, ap, ◌∙◌}
use mathlib.Core.List.{List, [], ◌∷◌, ◌++◌}
use Prim.Native.Nat.{ℕ, suc, ◌-◌, ◌≤◌, ◌<◌}
use native.Mathlib.Omega.{arith}
use lib.ListN.{length, take, drop, set, length-append, length-set}
use lib.Seq.{append_snoc, take-append_seam, set-append_seam, set-append_left, take_at}
use borrow.Author.Tests.{le-leb, lt-leb}
use Rattle.util.specs.Checksum.{checksum}
use Rattle.util.specs.Splice.{overwritten}
use Rattle.messages.specs.Promises.{checked}
use Rattle.desk_files.specs.Mend.{summed_part, mended, mended_in, Mended}

mended_list : (a : ℕ) (p : List ℕ) (c z : ℕ) → mended (a ∷ (p ++ c ∷ z ∷ [])) ≡ a ∷ (p ++ checksum p ∷ z ∷ [])
unfolding mended summed_part
mended_list a p c z =
    let l : List ℕ = a ∷ (p ++ c ∷ z ∷ []) in
    let n : length l - 2 ≡ suc (length p) = omega (arith, length-append p (c ∷ z ∷ [])) in
    let m : length l - 3 ≡ length p = omega (arith, length-append p (c ∷ z ∷ [])) in
    ap (λ (i : ℕ). set l i (checksum (take (length l - 3) (drop 1 l)))) n
    ∙ ap (λ (i : ℕ). set l (suc (length p)) (checksum (take i (drop 1 l)))) m
    ∙ ap (λ (q : List ℕ). a ∷ set (p ++ c ∷ z ∷ []) (length p) (checksum q)) (take-append_seam p (c ∷ z ∷ []))
    ∙ ap (λ (q : List ℕ). a ∷ q) (set-append_seam p c (z ∷ []) (checksum p))

-- the mended bytes of a frame with any checksum byte have the checksum of what is summed
pub mended_checked : (b : List ℕ) (c : ℕ) → mended (checked b c) ≡ checked b (checksum b)
mended_checked b c =
    ap (λ (l : List ℕ). mended (0xF0 ∷ l)) (append_snoc b c (0xF7 ∷ []))
    ∙ mended_list 0xF0 b c 0xF7
    ∙ ap (λ (l : List ℕ). 0xF0 ∷ l) (sym (append_snoc b (checksum b) (0xF7 ∷ [])))

pub mended_length : (bs : List ℕ) → length (mended bs) ≡ length bs
unfolding mended
mended_length bs = length-set bs _ _

-- six bytes or more that have room
mended_room : (bs : List ℕ) (room : ℕ) → 6 ≤ length bs → length bs ≤ room → mended_in room bs ≡ mended bs
unfolding mended_in
mended_room bs room h r = rw (le-leb (length bs) room r, le-leb 6 (length bs) h)

-- bytes that have no room
pub mended_long : (bs : List ℕ) (room : ℕ) → room < length bs → mended_in room bs ≡ []
unfolding mended_in
mended_long bs room r = rw (lt-leb (length bs) room r)

-- fewer than six bytes
pub mended_short : (bs : List ℕ) (room : ℕ) → length bs ≤ room → length bs < 6 → mended_in room bs ≡ []
unfolding mended_in
mended_short bs room r h = rw (le-leb (length bs) room r, lt-leb 6 (length bs) h)

-- where there are no mended bytes none are counted
pub mended_none : (bs before after : List ℕ) → mended_in (length before) bs ≡ [] → Mended bs before after 0
mended_none bs before after e =
    record { count = ap length (sym e); bytes = sym e; fits = omega arith }

-- the checksum of k bytes from the second on, stored into a copy at the front of a buffer
pub mended_stored : (bs before copied : List ℕ) (k v : ℕ) → 6 ≤ length bs → length bs ≤ length before → copied ≡ overwritten bs before
    → k ≡ length bs - 3 → v ≡ checksum (take k (drop 1 bs)) → Mended bs before (set copied (length bs - 2) v) (length bs)
unfolding mended summed_part
mended_stored bs before copied k v h r w p q =
    let e : ℕ = length bs - 2 in
    let i : length bs - 2 < length bs = omega arith in
    let m : mended_in (length before) bs ≡ mended bs = mended_room bs (length before) h r in
    let s : v ≡ checksum (take (length bs - 3) (drop 1 bs)) = q ∙ ap (λ (j : ℕ). checksum (take j (drop 1 bs))) p in
    record {
      count = sym (mended_length bs) ∙ ap length (sym m);
      bytes = ap (λ (l : List ℕ). take (length bs) (set l e v)) w
          ∙ ap (take (length bs)) (set-append_left bs (drop (length bs) before) e v i)
          ∙ take_at (set bs e v) (drop (length bs) before) (length bs) (length-set bs e v)
          ∙ ap (set bs e) s
          ∙ sym m;
      fits = r;
    }
