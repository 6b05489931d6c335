-- Laws of lists of one format: how long they are, and one more entry written.
-- Assumes nothing.
use mathlib.Core.Path.{◌≡◌, refl, sym, ap, ap₂, ◌∙◌}
use mathlib.Core.Option.{none}
use mathlib.Core.List.{List, [], ◌∷◌, ◌++◌, map}
use mathlib.Core.Logic.{◌⊎◌, inl, inr, ⊎_elim}
use Prim.Native.Nat.{ℕ, zero, suc, ◌+◌, ◌-◌, ◌*◌, ◌≤◌, ◌<◌, min}
use native.Mathlib.Numerals.{add-one}
use native.Mathlib.Omega.{arith}
use lib.ListN.{length, take, drop, get_or, length-append, length-take, length-map, drop_of_length-le, get_or-eq_default}
use lib.Seq.{drop-cons}
use Rattle.messages.proofs.Formats.{all_size}
use Rattle.messages.specs.format.Core.{Part, written}
use Rattle.messages.specs.format.Lists.{all_settle, all_bytes, all_length, filled, filled_length, exactly, counted}
use Rattle.util.specs.Splice.{overwritten, splice}
use Rattle.util.proofs.Laws.Splice.{item_turn}
use borrow.Rule.Slice.PartMut.{put_mid}
use native.Mathlib.Nat.{mul-le-mul_left}
use Rattle.write_lists.specs.Writing.{each}

-- the first n are the first n or fewer that there are
pub take_least : {A : Type 0} (n : ℕ) (l : List A) → take n l ≡ take (min (length l) n) l
take_least zero l = let e : min (length l) 0 ≡ 0 = omega arith in rw e
take_least (suc n) [] = let e : min 0 (suc n) ≡ 0 = omega arith in rw e
take_least (suc n) (x ∷ l) =
    let e : min (suc (length l)) (suc n) ≡ suc (min (length l) n) = omega arith in
    rw (e, ← take_least n l)

module _ {A : Type 0} (p : Part A) where
  -- ---- how long a list is

  module _ (k : ℕ) (one : (a : A) → length (p.bytes a) ≡ k) where
    pub exactly_size : (n : ℕ) (fill : ℕ → A) (fn : (i : ℕ) → p.refuses (fill i) ≡ none) (l : List A)
        → length (written (exactly p n fill fn) l) ≡ k * n
    exactly_size n fill fn l =
        all_size p k one (all_settle p (filled p n fill fn 0 n l))
        ∙ ap (λ (m : ℕ). k * m) (all_length p (filled p n fill fn 0 n l) ∙ filled_length p n fill fn 0 n l)

    pub counted_size : (l : List A) → length (written (counted p) l) ≡ 1 + k * min (length l) 127
    counted_size l =
        let e : length (all_settle p (take 127 l)) ≡ min (length l) 127 = all_length p (take 127 l) ∙ omega (arith, length-take 127 l) in
        ap suc (all_size p k one (all_settle p (take 127 l)) ∙ ap (λ (m : ℕ). k * m) e) ∙ omega arith

  -- ---- values one after another

  pub all_each : (l : List A) → all_bytes p (all_settle p l) ≡ each (written p) l
  all_each [] = refl
  all_each (x ∷ l) = ap (λ (r : List ℕ). written p x ++ r) (all_each l)

  -- a number and so many values
  pub counted_each : (l : List A) → written (counted p) l ≡ min (length l) 127 ∷ each (written p) (take (min (length l) 127) l)
  counted_each l =
      ap₂ (λ (n : ℕ) (r : List ℕ). n ∷ r) (all_length p (take 127 l) ∙ omega (arith, length-take 127 l))
      (all_each (take 127 l) ∙ ap (each (written p)) (take_least 127 l))

  -- the same of the values of entries
  module _ (val : ℕ → A) where
    take_each : (n : ℕ) (es : List ℕ) → each (written p) (take n (map val es)) ≡ each (λ e. written p (val e)) (take n es)
    take_each zero es = refl
    take_each (suc n) [] = refl
    take_each (suc n) (e ∷ es) = ap (λ (l : List ℕ). written p (val e) ++ l) (take_each n es)

    pub counted_is : (es : List ℕ)
        → written (counted p) (map val es) ≡ min (length es) 127 ∷ each (λ e. written p (val e)) (take (min (length es) 127) es)
    counted_is es =
        counted_each (map val es)
        ∙ rw length-map (ap (λ (l : List ℕ). min (length es) 127 ∷ l) (take_each (min (length es) 127) es))

  -- ---- n entries, filled by place: the entry at i, and those from i + 1 on. An entry that is missing is `def i`.

  module _ (n : ℕ) (fill : ℕ → A) (fn : (i : ℕ) → p.refuses (fill i) ≡ none) (val : ℕ → A) (def : ℕ → ℕ) (es : List ℕ) where
    abbrev pub filled_from : ℕ → List ℕ
    filled_from i = all_bytes p (all_settle p (filled p n fill fn i (n - i) (map val (drop i es))))

    filled_in : (i : ℕ) → i < n → i < length es → filled_from i ≡ written p (val (get_or es i (def i))) ++ filled_from (suc i)
    filled_in i h g = let e : n - i ≡ suc (n - suc i) = omega arith in rw (e, drop-cons es i (def i) g)

    filled_past : (i : ℕ) → i < n → length es ≤ i → val (def i) ≡ fill i
        → filled_from i ≡ written p (val (get_or es i (def i))) ++ filled_from (suc i)
    filled_past i h g v =
        let e : n - i ≡ suc (n - suc i) = omega arith in
        rw (e, drop_of_length-le es {i = i} g, drop_of_length-le es {i = suc i} (omega arith), get_or-eq_default es (def i) g, v)

    le_or_lt : (a b : ℕ) → (a ≤ b) ⊎ (b < a)
    le_or_lt zero b = inl (omega arith)
    le_or_lt (suc a) zero = inr (omega arith)
    le_or_lt (suc a) (suc b) = ⊎_elim (λ p. inl (omega arith)) (λ q. inr (omega arith)) (le_or_lt a b)

    pub filled_turn : (i : ℕ) → i < n → val (def i) ≡ fill i
        → filled_from i ≡ written p (val (get_or es i (def i))) ++ filled_from (i + 1)
    filled_turn i h v =
        ⊎_elim (λ g. filled_past i h g v) (λ g. filled_in i h g) (le_or_lt (length es) i)
        ∙ ap (λ (j : ℕ). written p (val (get_or es i (def i))) ++ filled_from j) (sym (add-one i))

    pub filled_done : (i : ℕ) → n ≤ i → filled_from i ≡ []
    filled_done i h = let e : n - i ≡ 0 = omega arith in rw e

-- ---- values of one size one after another

-- one value written: those that are left, on what is there, give what they gave
pub each_step : {A : Type 0} (f : A → List ℕ) (k s i : ℕ) (xs : List A) (v : A) (out ys z : List ℕ) → s ≡ k → i < length xs → v ≡ get_or xs i v
    → length (f v) ≡ k → k * length xs ≤ length out → ys ≡ overwritten (f v) (take (length out - s * i) (drop (s * i) out))
    → splice out (k * i) (each f (drop i xs)) ≡ z
    → splice (put_mid (s * i) (length out - s * i) out ys) (k * (i + 1)) (each f (drop (i + 1) xs)) ≡ z
each_step f k s i xs v out ys z e h g l r w t =
    let m : k * i + k ≡ k * (i + 1) = omega arith in
    let b : k * (i + 1) ≤ k * length xs = mul-le-mul_left k (omega arith) in
    let d : drop i xs ≡ v ∷ drop (i + 1) xs = rw (add-one, drop-cons xs i v, ← g) in
    let u = rw d at t in
    rw (e, ← m) (item_turn out ys (f v) (each f (drop (i + 1) xs)) z (k * i) k l (omega arith) (rw e at w) u).1

pub each_length : {A : Type 0} (f : A → List ℕ) (k : ℕ) → ((a : A) → length (f a) ≡ k) → (l : List A) → length (each f l) ≡ k * length l
each_length f k one [] = omega arith
each_length f k one (x ∷ l) = let e : k * suc (length l) ≡ k + k * length l = grind arith in length-append (f x) (each f l) ∙ omega (arith, one x, each_length f k one l, e)
