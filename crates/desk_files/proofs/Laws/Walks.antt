-- Laws of the parts of a file that are visited: the pairs of an index, one more frame, the pieces in turn.
-- Assumes nothing.
use mathlib.Core.Path.{◌≡◌, refl, sym, ap, subst, ◌∙◌}
use mathlib.Core.Logic.{◌⊎◌, inl, inr, ⊎_elim}
use mathlib.Core.Bool.{Bool, true, false, ◌&&◌}
use mathlib.Core.List.{List, [], ◌∷◌, ◌++◌, map, append-nil}
use Prim.Native.Nat.{ℕ, zero, suc, ◌+◌, ◌-◌, ◌/◌, ◌≤◌, ◌<◌, min}
use native.Mathlib.Omega.{arith}
use lib.Dec.{ltb, leb}
use lib.ListN.{length, take, drop, get_or, length-append, length-drop}
use lib.Seq.{take-suc, take-add, take_all}
use borrow.Author.Tests.{le-ltb, lt-ltb, le-leb, lt-leb, ltb-true, ltb-false}
use Rattle.std.specs.Prelude.{Ok, Err}
use Rattle.std.specs.List.{FoldsTo}
use Rattle.std.specs.Simd.{first_chunks}
use Rattle.std.proofs.lemmas.Fn.{FoldsTo-push}
use Rattle.std.proofs.lemmas.List.{map-append, length-map, get_or-map}
use Rattle.util.specs.Limits.{most_stream}
use Rattle.util.specs.Pick.{pick}
use Rattle.util.specs.Splice.{overwritten}
use Rattle.messages.specs.declared.file_reference.Kind.{Kind}
use Rattle.messages.specs.Walk.{Stretch, frames}
use Rattle.walk.specs.declared.WalkError.{WalkError}
use Rattle.walk.specs.declared.WalkError.TheVariants.{Stream, Index}
use Rattle.walk.specs.Answer.{Walked, walked_value, flat, how_many, answer, after, WalkMet}
use Rattle.walk.specs.Promises.{stretch}
use Rattle.walk.proofs.Laws.Index.{flat_length}
use Rattle.desk_io.specs.Pieces.{NextPiece}
use Rattle.desk_files.specs.declared.frames.Part.{Part}
use Rattle.desk_files.specs.Walks.{Shown, shown, part_at, parts_before, frames_before, VisitsFrames, InTurn}

-- ---- the pairs of an index

-- the numbers of a stretch as they stand in an index
abbrev pub pair_of : Stretch → List ℕ
pair_of y = y.0 ∷ y.1 ∷ []

-- pair i of the first n of an index
abbrev pub pair_at : List (List ℕ) → ℕ → ℕ → List ℕ
pair_at chunks n i = get_or (take n chunks) i []

-- the first pairs of an index that begins with the numbers of stretches
chunks_flat : (ys : List Stretch) (m : ℕ) (r : List ℕ) → length ys ≤ m → take (length ys) (first_chunks 2 m (flat ys ++ r)) ≡ map pair_of ys
unfolding flat
chunks_flat [] m r h = refl
chunks_flat (y ∷ ys) zero r h = absurd (omega arith)
chunks_flat (y ∷ ys) (suc m) r h = ap (λ (l : List (List ℕ)). pair_of y ∷ l) (chunks_flat ys m r (omega arith))

abbrev failed : Walked → ℕ
failed (Ok n) = 0
failed (Err e) = 1

-- an answer without an error passes both tests
passed : (a b : Bool) (n h : ℕ) → ◌≡◌ {A = Walked} (Ok n) (pick a (Err Stream) (pick b (Err (Index h)) (Ok h))) → (a ≡ false) × (b ≡ false) × (n ≡ h)
passed true b n h e = let z : ◌≡◌ {A = ℕ} 0 1 = ap failed e in absurd (omega arith)
passed false true n h e = let z : ◌≡◌ {A = ℕ} 0 1 = ap failed e in absurd (omega arith)
passed false false n h e = (refl, refl, ap walked_value e)

-- an error is of one of them
stopped : (a b : Bool) (h : ℕ) (x : WalkError) → ◌≡◌ {A = Walked} (Err x) (pick a (Err Stream) (pick b (Err (Index h)) (Ok h))) → (a ≡ true) ⊎ (b ≡ true)
stopped true b h x e = inl refl
stopped false true h x e = inr refl
stopped false false h x e = let z : ◌≡◌ {A = ℕ} 1 0 = ap failed e in absurd (omega arith)

module _ {k : Kind} {s ix ix' : List ℕ} where
  module _ {n : ℕ} (m : WalkMet (Ok n) k s ix ix') where
    -- a walk that lists frames: the index has room for them, and begins with their numbers
    listed : (length s ≤ most_stream) × (how_many k s ≤ length ix / 2) × (n ≡ how_many k s) × (ix' ≡ overwritten (flat (frames k s)) ix)
    unfolding answer after
    listed =
        let t = passed (ltb most_stream (length s)) (ltb (length ix / 2) (how_many k s)) n (how_many k s) m.says in
        let a : ltb most_stream (length s) ≡ false = t.0 in
        let b : ltb (length ix / 2) (how_many k s) ≡ false = t.1 in
        let i : after k s ix ≡ overwritten (flat (frames k s)) ix = rw (a, b) in
        (ltb-false most_stream (length s) a, ltb-false (length ix / 2) (how_many k s) b, t.2, m.index_is ∙ i)

    module _ {chunks : List (List ℕ)} (e : chunks ≡ first_chunks 2 (length ix' / 2) ix') where
      items_are : take n chunks ≡ map pair_of (frames k s)
      items_are =
          let t = listed in
          let ys = frames k s in
          let r = drop (length (flat ys)) ix in
          let l : length ix' ≡ length (flat ys) + length r = ap length t.3 ∙ length-append (flat ys) r in
          let h : length ys ≤ length ix' / 2 = omega (arith, t.1, l, flat_length ys, length-drop (length (flat ys)) ix) in
          ap (λ (i : ℕ). take i chunks) t.2
          ∙ ap (take (length ys)) (e ∙ ap (first_chunks 2 (length ix' / 2)) t.3)
          ∙ chunks_flat ys (length ix' / 2) r h

      items_length : length (take n chunks) ≡ length (frames k s)
      items_length = ap length items_are ∙ length-map (frames k s) pair_of

      pair_is : (i : ℕ) → i < length (take n chunks) → pair_at chunks n i ≡ pair_of (get_or (frames k s) i (0, 0))
      pair_is i h =
          ap (λ (l : List (List ℕ)). get_or l i []) items_are ∙ get_or-map pair_of (frames k s) i (0, 0) [] (omega (arith, items_length))

      pub items_count : n ≡ length (take n chunks)
      items_count = listed.2 ∙ sym items_length

    all_before : (o r : ℕ) → parts_before s o r (frames k s) ≡ frames_before k s o r (length ix)
    unfolding frames_before
    all_before o r = rw (le-leb (length s) most_stream listed.0, le-leb (how_many k s) (length ix / 2) listed.1)

  none_before : (x : WalkError) (o r : ℕ) → WalkMet (Err x) k s ix ix' → [] ≡ frames_before k s o r (length ix)
  unfolding answer frames_before
  none_before x o r m =
      ⊎_elim
      (λ a. let h : leb (length s) most_stream ≡ false = lt-leb (length s) most_stream (ltb-true most_stream (length s) a) in rw h)
      (λ b. let h : leb (how_many k s) (length ix / 2) ≡ false = lt-leb (how_many k s) (length ix / 2) (ltb-true (length ix / 2) (how_many k s) b) in
      rw h (past (leb (length s) most_stream) (parts_before s o r (frames k s))))
      (stopped (ltb most_stream (length s)) (ltb (length ix / 2) (how_many k s)) (how_many k s) x m.says)
    where
      past : (a : Bool) (l : List Shown) → [] ≡ pick (a && false) l []
      past true l = refl
      past false l = refl

-- ---- one more turn

pick_append : (b : Bool) (p : Shown) (a c : List Shown) → pick b (p ∷ (a ++ c)) (a ++ c) ≡ pick b (p ∷ a) a ++ c
pick_append true p a c = refl
pick_append false p a c = refl

parts_snoc : (s : List ℕ) (o r : ℕ) (ys : List Stretch) (y : Stretch) → parts_before s o r (ys ++ (y ∷ [])) ≡ parts_before s o r ys ++ parts_before s o r (y ∷ [])
unfolding parts_before
parts_snoc s o r [] y = refl
parts_snoc s o r (x ∷ ys) y =
    let e = parts_snoc s o r ys y in
    rw e (pick_append (ltb x.0 r) (part_at s o x) (parts_before s o r ys) (parts_before s o r (y ∷ [])))

-- calls from f to q visited the parts of stretches
abbrev pub Visited : {F : Type 0} → (F → Part → F → Type 0) → List ℕ → ℕ → ℕ → F → List Stretch → F → Type 0
Visited R s o r f ys q = (xs : List Part) × FoldsTo R f xs q × (map shown xs ≡ parts_before s o r ys)

pub visited_none : {F : Type 0} (R : F → Part → F → Type 0) (s : List ℕ) (o r : ℕ) (f : F) → Visited R s o r f [] f
unfolding parts_before
visited_none R s o r f = ([], refl, refl)

module _ (s : List ℕ) (o r : ℕ) where
  parts_turn : (ys : List Stretch) (i : ℕ) → i < length ys → parts_before s o r (take (i + 1) ys) ≡ parts_before s o r (take i ys) ++ parts_before s o r (get_or ys i (0, 0) ∷ [])
  parts_turn ys i h =
      let e : i + 1 ≡ suc i = omega arith in
      ap (λ (j : ℕ). parts_before s o r (take j ys)) e
      ∙ ap (parts_before s o r) (take-suc ys i (0, 0) h)
      ∙ parts_snoc s o r (take i ys) (get_or ys i (0, 0))

  part_in : (y : Stretch) (p : Part) → y.0 < r → p.bytes.now ≡ stretch s y.0 y.1 → p.offset ≡ min (o + y.0) 18446744073709551615 → shown p ∷ [] ≡ parts_before s o r (y ∷ [])
  unfolding parts_before
  part_in y p h b a = rw (lt-ltb y.0 r h, b, a)

  part_out : (y : Stretch) → r ≤ y.0 → [] ≡ parts_before s o r (y ∷ [])
  unfolding parts_before
  part_out y h = rw (le-ltb y.0 r h)

-- the frames of a walk that are visited in turn, from f on
module _ {F : Type 0} {R : F → Part → F → Type 0} {k : Kind} {s ix ix' : List ℕ} (o r : ℕ) {f : F} where
  pub visits_none : {x : WalkError} → NextPiece (length s) r → WalkMet (Err x) k s ix ix' → VisitsFrames R f k s o (length ix)
  visits_none {x} a m = (r, a, ([], f, refl, none_before x o r m))

  module _ {n : ℕ} (m : WalkMet (Ok n) k s ix ix') {chunks : List (List ℕ)} (e : chunks ≡ first_chunks 2 (length ix' / 2) ix') {i : ℕ} {q : F} (v : Visited R s o r f (take i (frames k s)) q) where
    pub visits_all : NextPiece (length s) r → length (take n chunks) ≤ i → VisitsFrames R f k s o (length ix)
    visits_all a h =
        let l : length (frames k s) ≤ i = omega (arith, items_length m e) in
        (r, a, (v.0, q, v.1, v.2 ∙ ap (parts_before s o r) (take_all i (frames k s) l) ∙ all_before m o r))

    -- the turn of pair i, which leaves z
    module _ (h : i < length (take n chunks)) {z : F} where
      turned : (xs : List Part) → FoldsTo R f (v.0 ++ xs) z → map shown xs ≡ parts_before s o r (get_or (frames k s) i (0, 0) ∷ [])
          → Visited R s o r f (take (i + 1) (frames k s)) z
      turned xs c a = (
        v.0 ++ xs,
        c,
        map-append shown v.0 xs
            ∙ ap (λ (l : List Shown). l ++ map shown xs) v.2
            ∙ ap (λ (l : List Shown). parts_before s o r (take i (frames k s)) ++ l) a
            ∙ sym (parts_turn s o r (frames k s) i (omega (arith, items_length m e))),
      )

      pub visited_more : {p : Part} {u : F} → R q p u → z ≡ u → get_or (pair_at chunks n i) 0 0 < r
          → p.bytes.now ≡ take (get_or (pair_at chunks n i) 1 0) (drop (get_or (pair_at chunks n i) 0 0) s)
          → p.offset ≡ min (o + get_or (pair_at chunks n i) 0 0) 18446744073709551615 → Visited R s o r f (take (i + 1) (frames k s)) z
      visited_more {p} c w l b a =
          let x = pair_is m e i h in
          turned (p ∷ []) (FoldsTo-push R f v.0 q p z v.1 (rw w c)) (part_in s o r (get_or (frames k s) i (0, 0)) p (rw x at l) (rw x at b) (rw x at a))

      pub visited_same : z ≡ q → r ≤ get_or (pair_at chunks n i) 0 0 → Visited R s o r f (take (i + 1) (frames k s)) z
      visited_same w l =
          turned [] (rw (w, append-nil v.0) v.1) (part_out s o r (get_or (frames k s) i (0, 0)) (rw (pair_is m e i h) at l))

-- ---- the pieces of a file

-- the visit of a piece, and what follows it, for whoever says what comes of the visits
module _ {F : Type 0} {step : F → ℕ → Part → Bool → F → Type 0} {f : F} {n o : ℕ} {bs : List ℕ} {C : Bool → Type 0} (says : (qs : List Part) (is_read : Bool) → InTurn step f n o bs qs is_read → C is_read) {p : Part} {b : Bool} {g : F} (v : step f n p b g) (w : shown p ≡ (o, bs)) where
  pub ends_here : (b ≡ false) ⊎ (length bs < most_stream) → C true
  ends_here h = says (p ∷ []) true (w, (b, g, v, inl (h, refl, refl)))

  pub fails_here : {is_read : Bool} → is_read ≡ false → b ≡ true → most_stream ≤ length bs → C is_read
  fails_here {is_read} e h l = says (p ∷ []) is_read (w, (b, g, v, inr ((h, l), inl (e, refl))))

  pub goes_on : {r k m : ℕ} (room : List ℕ) (ps : List Part) {is_read : Bool} → b ≡ true → most_stream ≤ length bs → NextPiece (length bs) r → k ≤ m → take k room ≡ drop r bs
      → InTurn step g (n + 1) (min (o + r) 18446744073709551615) (take m room) ps is_read → C is_read
  goes_on {r} {k} {m} room ps {is_read} h l q d e t =
      let i : m ≡ k + (m - k) = omega arith in
      let more = take (m - k) (drop k room) in
      let j : take m room ≡ drop r bs ++ more =
      ap (λ (x : ℕ). take x room) i ∙ take-add k (m - k) room ∙ ap (λ (x : List ℕ). x ++ more) e in
      let u = subst (λ (x : List ℕ). InTurn step g (n + 1) (min (o + r) 18446744073709551615) x ps is_read) j t in
      says (p ∷ ps) is_read (w, (b, g, v, inr ((h, l), inr (r, q, (more, u)))))
