-- Demand 3, from the contracts of `walk` and `read`. Assumes nothing.
use mathlib.Core.Path.{◌≡◌, sym, ap, ap₂, subst, ◌∙◌}
use mathlib.Core.Logic.{⊎_elim}
use mathlib.Core.List.{List}
use Prim.Native.Nat.{ℕ, ◌+◌, ◌*◌, ◌/◌, ◌≤◌, ◌<◌}
use native.Mathlib.Omega.{arith}
use lib.Dec.{ltb}
use lib.ListN.{length, take, drop}
use lib.Seq.{drop-drop}
use borrow.Author.Tests.{ltb-true, ltb-false}
use Rattle.util.specs.Limits.{most_stream}
use Rattle.util.specs.Splice.{overwritten}
use Rattle.messages.specs.declared.file_reference.Kind.{Kind}
use Rattle.messages.specs.Walk.{Stretch, Listed, Rising, since, frames}
use Rattle.messages.proofs.Exact.{frame_unique}
use Rattle.std.proofs.lemmas.Bool.{cases_Bool}
use Rattle.messages.proofs.Walk.{listed_exactly, listed_rising, same_from_there}
use Rattle.reader.specs.Promises.{Read}
use Rattle.reader.proofs.Promises.{gives_exactly, same_answer}
use Rattle.std.specs.Prelude.{Ok, Err}
use Rattle.walk.specs.declared.WalkError.TheVariants.{Stream, Index}
use Rattle.walk.specs.Answer.{Walked, walked_number, walked_value, flat, how_many, WalkMet}
use Rattle.walk.specs.Promises.{Walk, listed, stretch, ListsExactly, ListsRising, ReadsListed, Agree, SamePairs, SameReadings, StreamExactly, IndexExactly, CountsFrames, RefusedKept, RestKept, OneWalk}
use Rattle.walk.proofs.Laws.Index.{pairs_flat, front_rest}
use Rattle.walk.proofs.Laws.Answers.{too_long, too_many, enough}

-- ---- what is listed

walk_says : (k : Kind) (w : Walked) (s ix ix' : List ℕ) → Walk k w s ix ix' → w ≡ Ok (how_many k s)
walk_says k w s ix ix' c = c.met.says ∙ sym (enough k s ix c.short c.long_enough).0

walk_leaves : (k : Kind) (w : Walked) (s ix ix' : List ℕ) → Walk k w s ix ix' → ix' ≡ overwritten (flat (frames k s)) ix
walk_leaves k w s ix ix' c = c.met.index_is ∙ sym (enough k s ix c.short c.long_enough).1

walk_lists : (k : Kind) (w : Walked) (s ix ix' : List ℕ) → Walk k w s ix ix' → listed w ix' ≡ frames k s
walk_lists k w s ix ix' c =
    ap₂ (λ (v : Walked) (l : List ℕ). listed v l) (walk_says k w s ix ix' c) (walk_leaves k w s ix ix' c)
    ∙ pairs_flat (frames k s) (drop (length (flat (frames k s))) ix)

pub lists_exactly : ListsExactly
lists_exactly k w s ix ix' o l c =
    let e = walk_lists k w s ix ix' c in
    let p = listed_exactly k s o l in
    (λ m. p.0 (subst (Listed (o, l)) e m), λ h. subst (Listed (o, l)) (sym e) (p.1 h))

pub lists_rising : ListsRising
lists_rising k w s ix ix' c =
    let e = walk_lists k w s ix ix' c in
    let a = walk_says k w s ix ix' c in
    (subst Rising (sym e) (listed_rising k s), ap walked_number a, ap walked_value a ∙ sym (ap (λ (l : List Stretch). length l) e))

pub reads_listed : ReadsListed
reads_listed k w s ix ix' o l r dat dat' es es' c m rd enough-for =
    let f = ((lists_exactly k w s ix ix' o l c).0 m).1 in
    record {
      message = f.message;
      is_given = (gives_exactly k r (stretch s o l) dat dat' es es' f.message rd).1 (f.settled, f.frame, enough-for f.message f.settled f.frame);
      settled = f.settled;
      frame_is = f.frame;
      only = λ n sn fn. frame_unique k n f.message (stretch s o l) sn f.settled fn f.frame;
    }

pub same_pairs : SamePairs
same_pairs k w v s t ix ix' iy iy' a b c d g =
    ap (since a) (walk_lists k w s ix ix' c)
    ∙ same_from_there k s t a b g.in_first g.in_second g.first_f0 g.second_f0 g.same
    ∙ sym (ap (since b) (walk_lists k v t iy iy' d))

-- ---- what is read

same_stretch : (s t : List ℕ) (a b o l : ℕ) → Agree s t a b → stretch s (a + o) l ≡ stretch t (b + o) l
same_stretch s t a b o l g = ap (take l) (sym (drop-drop o a s) ∙ ap (drop o) g.same ∙ drop-drop o b t)

pub same_readings : SameReadings
same_readings k s t a b o l p q dat dat' es es' dau dau' et et' g c d hd he =
    same_answer k p q (stretch s (a + o) l) dat dat' dau dau' es es' et et' c
    (subst (λ (f : List ℕ). Read k q f dau dau' et et') (sym (same_stretch s t a b o l g)) d) hd he

-- ---- rows 11 and 12

module _ (k : Kind) (w : Walked) (s ix ix' : List ℕ) (c : WalkMet w k s ix ix') where
  long_says : most_stream < length s → (w ≡ Err Stream) × (ix' ≡ ix)
  long_says h = let p = too_long k s ix h in (c.says ∙ sym p.0, c.index_is ∙ sym p.1)

  many_says : length s ≤ most_stream → length ix / 2 < how_many k s → (w ≡ Err (Index (how_many k s))) × (ix' ≡ ix)
  many_says h m = let p = too_many k s ix h m in (c.says ∙ sym p.0, c.index_is ∙ sym p.1)

  enough_says : length s ≤ most_stream → how_many k s ≤ length ix / 2 → w ≡ Ok (how_many k s)
  enough_says h m = c.says ∙ sym (enough k s ix h m).0

  -- one of the three
  cases : {C : Type 0} → (most_stream < length s → C) → (length s ≤ most_stream → length ix / 2 < how_many k s → C)
      → (length s ≤ most_stream → how_many k s ≤ length ix / 2 → C) → C
  cases f g h = ⊎_elim
      (λ e. f (ltb-true most_stream (length s) e))
      (λ e. ⊎_elim
      (λ d. g (ltb-false most_stream (length s) e) (ltb-true (length ix / 2) (how_many k s) d))
      (λ d. h (ltb-false most_stream (length s) e) (ltb-false (length ix / 2) (how_many k s) d))
      (cases_Bool (ltb (length ix / 2) (how_many k s))))
      (cases_Bool (ltb most_stream (length s)))

pub stream_exactly : StreamExactly
stream_exactly k w s ix ix' c = (
  λ e. cases k w s ix ix' c (λ h. h)
      (λ h m. absurd (omega (arith, e, ap walked_number (many_says k w s ix ix' c h m).0)))
      (λ h m. absurd (omega (arith, e, ap walked_number (enough_says k w s ix ix' c h m)))),
  λ h. ap walked_number (long_says k w s ix ix' c h).0,
)

pub index_exactly : IndexExactly
index_exactly k w s ix ix' c = (
  λ e. cases k w s ix ix' c
      (λ h. absurd (omega (arith, e, ap walked_number (long_says k w s ix ix' c h).0)))
      (λ h m. (h, m))
      (λ h m. absurd (omega (arith, e, ap walked_number (enough_says k w s ix ix' c h m)))),
  λ h. ap walked_number (many_says k w s ix ix' c h.0 h.1).0,
)

pub counts_frames : CountsFrames
counts_frames k w s ix ix' c = (
  λ h. ap walked_value (long_says k w s ix ix' c h).0,
  λ h. cases k w s ix ix' c
      (λ l. absurd (omega (arith, h, l)))
      (λ l m. ap walked_value (many_says k w s ix ix' c l m).0)
      (λ l m. ap walked_value (enough_says k w s ix ix' c l m)),
)

pub refused_kept : RefusedKept
refused_kept k w s ix ix' c n =
    cases k w s ix ix' c
    (λ h. (long_says k w s ix ix' c h).1)
    (λ h m. (many_says k w s ix ix' c h m).1)
    (λ h m. absurd (n (ap walked_number (enough_says k w s ix ix' c h m))))

pub rest_kept : RestKept
rest_kept k w s ix ix' c =
    let a : walked_value w ≡ how_many k s = ap walked_value (walk_says k w s ix ix' c) in
    ap (λ (n : ℕ). drop (n * 2) ix') a
    ∙ ap (drop (how_many k s * 2)) (walk_leaves k w s ix ix' c)
    ∙ front_rest (frames k s) ix
    ∙ ap (λ (n : ℕ). drop (n * 2) ix) (sym a)

-- ---- one answer

pub one_walk : OneWalk
one_walk k w v s ix ix' ix'' c d = (c.says ∙ sym d.says, c.index_is ∙ sym d.index_is)
