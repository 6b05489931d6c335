-- Numbers as bytes: k groups lowest first, k groups highest first, a byte held to a range.
use Rattle.std.specs.Prelude.{◌≡◌, refl, List, [], ◌∷◌, ◌++◌, ℕ, ◌^◌, ◌-◌, ◌<◌, ◌≤◌, min, max, ltb, leb, length, take, drop}
use Rattle.std.proofs.Common.{subst, arith, length-append, take-append-drop, take_at, drop_at, length-take-le, ltb-true, lt-ltb, leb-true, le-leb, le_refl}
use Rattle.std.proofs.Math.Option.{none}
use Rattle.util.specs.Groups.{Seven, seven, groups, value, groups_high, value_high}
use Rattle.util.proofs.Laws.Groups.{seven_true, true_seven, power_positive, groups_length, groups_seven, value_groups, groups_value, groups_high_length, groups_high_seven, value_high_groups, groups_high_value}
use Rattle.messages.specs.format.Core.{Got, bad, got, guard, Part, bad_got, guard_got}

-- ---- k bytes that stand for a number below t

-- the laws that the bytes and the values of k groups have
pub record Code (k t : ℕ) : Type 0 where
  pub write : ℕ → List ℕ
  pub value_of : List ℕ → ℕ
  pub size : (v : ℕ) → length (write v) ≡ k
  pub seven_bit : (v : ℕ) → v < t → Seven (write v)
  pub again : (v : ℕ) → v < t → value_of (write v) ≡ v
  pub same : (bs : List ℕ) → length bs ≡ k → Seven bs → value_of bs < t → write (value_of bs) ≡ bs

module _ {k t : ℕ} (pos : 0 < t) (c : Code k t) where
  abbrev pub read_code : List ℕ → Got ℕ
  read_code bs =
      guard (leb k (length bs)) (guard (seven (take k bs))
      (guard (ltb (c.value_of (take k bs)) t) (got (c.value_of (take k bs)) (drop k bs))))

  pub code_back : (v : ℕ) (r : List ℕ) → v < t → read_code (c.write v ++ r) ≡ got v r
  code_back v r h =
      let s = c.size v in
      let l : k ≤ length (c.write v ++ r) = omega (arith, length-append (c.write v) r) in
      rw (le-leb _ _ l, take_at (c.write v) r k s, drop_at (c.write v) r k s, true_seven (c.write v) (c.seven_bit v h), c.again v h, lt-ltb v t h)

  pub code_only : (bs : List ℕ) (v : ℕ) (r : List ℕ) → read_code bs ≡ got v r → (v < t) × (c.write v ++ r ≡ bs)
  code_only bs v r e =
      guard_got (leb k (length bs)) e λ a e₁. guard_got (seven (take k bs)) e₁ λ b e₂.
      guard_got (ltb (c.value_of (take k bs)) t) e₂ λ d e₃.
      let x : c.value_of (take k bs) ≡ v = cc in
      let y : drop k bs ≡ r = cc in
      let l : length (take k bs) ≡ k = length-take-le k bs (leb-true k (length bs) a) in
      let u = ltb-true (c.value_of (take k bs)) t d in
      (rw (← x) u, rw (← x, ← y, c.same (take k bs) l (seven_true (take k bs) b) u) (take-append-drop k bs))

  pub held_lt : (v : ℕ) → min v (t - 1) < t
  held_lt v = omega arith

  pub held_stays : (v : ℕ) → v < t → min v (t - 1) ≡ v
  held_stays v h = omega arith

  -- the number held below t, in k bytes
  abbrev pub coded : Part ℕ
  coded =
      record {
        refuses = λ v. none;
        settle = λ v. min v (t - 1);
        settled = λ v. v < t;
        bytes = c.write;
        read = read_code;
        keeps = λ v e. held_lt v;
        stays = λ v h. (refl, held_stays v h);
        low = c.seven_bit;
        back = code_back;
        only = code_only;
      }

-- ---- k groups, held to the largest

abbrev groups_code : (k : ℕ) → Code k (128 ^ k)
groups_code k =
    record {
      write = groups k;
      value_of = value;
      size = groups_length k;
      seven_bit = λ v h. groups_seven k v;
      again = value_groups k;
      same = λ bs l s h. subst (λ (n : ℕ). groups n (value bs) ≡ bs) l (groups_value bs s);
    }

-- lowest first
abbrev pub unsigned : ℕ → Part ℕ
unsigned k = coded (power_positive k) (groups_code k)

abbrev groups_high_code : (k t : ℕ) → t ≤ 128 ^ k → Code k t
groups_high_code k t le =
    record {
      write = groups_high k;
      value_of = value_high;
      size = groups_high_length k;
      seven_bit = λ v h. groups_high_seven k v (omega arith);
      again = λ v h. value_high_groups k v (omega arith);
      same = λ bs l s h. subst (λ (n : ℕ). groups_high n (value_high bs) ≡ bs) l (groups_high_value bs s);
    }

-- highest first, the number below t
abbrev pub unsigned_high_below : (k t : ℕ) → 0 < t → t ≤ 128 ^ k → Part ℕ
unsigned_high_below k t pos le = coded pos (groups_high_code k t le)

-- highest first
abbrev pub unsigned_high : ℕ → Part ℕ
unsigned_high k = unsigned_high_below k (128 ^ k) (power_positive k) (le_refl (128 ^ k))

-- ---- one byte, held to a range

module _ (lo hi : ℕ) (h : lo ≤ hi) (l : hi < 128) where
  abbrev pub read_range : List ℕ → Got ℕ
  read_range [] = bad
  read_range (b ∷ bs) = guard (leb lo b) (guard (leb b hi) (got b bs))

  pub range_back : (v : ℕ) (r : List ℕ) → (lo ≤ v) × (v ≤ hi) → read_range (v ∷ r) ≡ got v r
  range_back v r p = rw (le-leb _ _ p.0, le-leb _ _ p.1)

  pub range_only : (bs : List ℕ) (v : ℕ) (r : List ℕ) → read_range bs ≡ got v r → ((lo ≤ v) × (v ≤ hi)) × (v ∷ r ≡ bs)
  range_only [] v r e = absurd (bad_got e)
  range_only (b ∷ bs) v r e =
      guard_got (leb lo b) e λ t e₁. guard_got (leb b hi) e₁ λ u e₂.
      let x : b ≡ v = cc in
      let y : v ∷ r ≡ b ∷ bs = cc in
      let p : lo ≤ b = leb-true lo b t in
      let q : b ≤ hi = leb-true b hi u in
      ((omega arith, omega arith), y)

  pub range_keeps : (v : ℕ) → (lo ≤ max lo (min v hi)) × (max lo (min v hi) ≤ hi)
  range_keeps v = omega arith

  pub range_stays : (v : ℕ) → (lo ≤ v) × (v ≤ hi) → max lo (min v hi) ≡ v
  range_stays v p = omega arith

  pub range_low : (v : ℕ) → (lo ≤ v) × (v ≤ hi) → Seven (v ∷ [])
  range_low v p = (omega arith, tt)

  abbrev pub ranged : Part ℕ
  ranged =
      record {
        refuses = λ v. none;
        settle = λ v. max lo (min v hi);
        settled = λ v. (lo ≤ v) × (v ≤ hi);
        bytes = λ v. v ∷ [];
        read = read_range;
        keeps = λ v e. range_keeps v;
        stays = λ v p. (refl, range_stays v p);
        low = range_low;
        back = range_back;
        only = range_only;
      }
