-- Laws of the operations of `lib.Ieee` on floats that are finite and not negative, zero included, by the fractions a / c that they equal (`HasValue x false a c`).
-- Assumes nothing.
use mathlib.Core.Path.{◌≡◌, refl, sym, ap, ◌∙◌, subst}
use Prim.Native.Nat.{ℕ, zero, suc, ◌+◌, ◌-◌, ◌*◌, ◌/◌, ◌%◌, ◌^◌, ◌≤◌, ◌<◌, zero-le, compare, Ordering}
use native.Mathlib.Nat.{le_trans, le_of_eq, lt_of_lt_of_le, lt_of_le_of_lt, le_of_lt, le_of_suc-le-suc, lt_of_not-le, not-le_of_lt, zero-lt-suc, add-zero, one-mul, mul-one, mul_comm, mul_assoc, mul_left_comm, mul_right_comm, mul-mul-mul_comm, add-mul, mul-sub, mul-pos, mul-le-mul_left, mul-le-mul_right, le_of_mul-le-mul_right, eq_of_mul-eq-mul_right, div-add-mod', div-lt_iff_lt-mul, mod-one, mod-le, mod-lt, suc-mul}
use native.Mathlib.Omega.{arith}
use mathlib.Core.Bool.{Bool, true, false, not, ◌&&◌, cond, true≢false}
use lib.IntN.{ℤ, pos, negsuc}
use lib.Dec.{T, ltb, leb, eqb, is_le, compare_is_eq, leb→le, nleb→lt, ltb→lt, eqb→eq, eqb_refl}
use lib.Arith.{lt_of_le-ne}
use lib.Pow.{pow-add, pow_pos, pow_mono, pow-lt, shl_lt}
use lib.Ieee.{Float, nan, inf, fin, Format, prec, emax, low, up, down, size, nearest, round, sum, add, sub, mul, of_int, fits}
use lib.Ieee.Digits.{size-le, back}
use lib.Ieee.Fits.{and_l, and_r, down_pos, reach}
use lib.Ieee.Exact.{HasValue, round_exact}
use lib.Ieee.Nearest.{closest}
use lib.Ieee.Order.{drop, transfer}
use lib.Ieee.Scale.{round_same, grid}
use lib.Ieee.Back.{round_whole}

-- ---- the same size as another fraction
pub rescale : (x : Float) (s : Bool) (a c b d : ℕ) → 0 < c → b * c ≡ a * d → HasValue x s a c → HasValue x s b d
rescale nan s a c b d C h v = v
rescale (inf t) s a c b d C h v = v
rescale (fin t m e) s a c b d C h v = (
  v.0,
  eq_of_mul-eq-mul_right c C (m * up e * d) (b * down e)
      (mul_right_comm (m * up e) d c
      ∙ ap (λ (z : ℕ). z * d) v.1
      ∙ mul_right_comm a (down e) d
      ∙ ap (λ (z : ℕ). z * down e) (sym h)
      ∙ mul_right_comm b c (down e)),
)

-- ---- the operations, each one rounding of the exact result
pub mul_value : (f : Format) (x y : Float) (a c b d : ℕ) → 0 < c → 0 < d → HasValue x false a c → HasValue y false b d → mul f x y ≡ round f false (a * b) (c * d)
unfolding mul
mul_value f nan y a c b d C D u v = absurd u
mul_value f (inf s) y a c b d C D u v = absurd u
mul_value f (fin true m e) y a c b d C D u v = absurd (true≢false u.0)
mul_value f (fin false m e) nan a c b d C D u v = absurd v
mul_value f (fin false m e) (inf t) a c b d C D u v = absurd v
mul_value f (fin false m e) (fin true n g) a c b d C D u v = absurd (true≢false v.0)
mul_value f (fin false m e) (fin false n g) a c b d C D u v =
    round_same f false (m * up e * (n * up g)) (down e * down g) (a * b) (c * d) (mul-pos (down_pos e) (down_pos g)) (mul-pos C D)
    (mul-mul-mul_comm (m * up e) (n * up g) c d ∙ ap (λ (z : ℕ). z * (n * up g * d)) u.1 ∙ ap (λ (z : ℕ). a * down e * z) v.1 ∙ mul-mul-mul_comm a (down e) b (down g))

-- x / dx + y / dy = a / c + b / d
left : (x dx dy a c d : ℕ) → x * c ≡ a * dx → x * dy * (c * d) ≡ a * d * (dx * dy)
left x dx dy a c d p = mul-mul-mul_comm x dy c d ∙ ap (λ (z : ℕ). z * (dy * d)) p ∙ mul-mul-mul_comm a dx dy d ∙ simp (mul_assoc, mul_comm, mul_left_comm)

right : (y dx dy b c d : ℕ) → y * d ≡ b * dy → y * dx * (c * d) ≡ b * c * (dx * dy)
right y dx dy b c d p = ap (λ (z : ℕ). y * dx * z) (mul_comm c d) ∙ left y dy dx b d c p ∙ ap (λ (z : ℕ). b * c * z) (mul_comm dy dx)

pub add_value : (f : Format) (x y : Float) (a c b d : ℕ) → 0 < c → 0 < d → HasValue x false a c → HasValue y false b d → add f x y ≡ round f false (a * d + b * c) (c * d)
unfolding add
add_value f nan y a c b d C D u v = absurd u
add_value f (inf s) y a c b d C D u v = absurd u
add_value f (fin true m e) y a c b d C D u v = absurd (true≢false u.0)
add_value f (fin false m e) nan a c b d C D u v = absurd v
add_value f (fin false m e) (inf t) a c b d C D u v = absurd v
add_value f (fin false m e) (fin true n g) a c b d C D u v = absurd (true≢false v.0)
add_value f (fin false m e) (fin false n g) a c b d C D u v =
    let x = m * up e in
    let y = n * up g in
    round_same f false (x * down g + y * down e) (down e * down g) (a * d + b * c) (c * d) (mul-pos (down_pos e) (down_pos g)) (mul-pos C D)
    (add-mul (x * down g) (y * down e) (c * d)
    ∙ ap (λ (z : ℕ). z + y * down e * (c * d)) (left x (down e) (down g) a c d u.1)
    ∙ ap (λ (z : ℕ). a * d * (down e * down g) + z) (right y (down e) (down g) b c d v.1)
    ∙ sym (add-mul (a * d) (b * c) (down e * down g)))

pick : (f : Format) (a b c : ℕ) → b ≤ a → sum f false a true b c ≡ round f false (a - b) c
unfolding sum
pick f a b c h = go (ltb a b) (ltb→lt a b)
  where
    go : (t : Bool) → (T t → a < b) → cond t (round f true (b - a) c) (round f false (a - b) c) ≡ round f false (a - b) c
    go true k = absurd (not-le_of_lt (k tt) h)
    go false k = refl

opened : (f : Format) (m : ℕ) (e : ℤ) (n : ℕ) (d : ℤ) → sub f (fin false m e) (fin false n d) ≡ sum f false (m * up e * down d) true (n * up d * down e) (down e * down d)
unfolding sub
opened f m e n d = refl

less : (k p q : ℕ) → (p - q) * k ≡ p * k - q * k
less k p q = mul_comm (p - q) k ∙ mul-sub k p q ∙ ap (λ (z : ℕ). z - k * q) (mul_comm k p) ∙ ap (λ (z : ℕ). p * k - z) (mul_comm k q)

pub sub_value : (f : Format) (x y : Float) (a c b d : ℕ) → 0 < c → 0 < d → HasValue x false a c → HasValue y false b d → b * c ≤ a * d → sub f x y ≡ round f false (a * d - b * c) (c * d)
sub_value f nan y a c b d C D u v h = absurd u
sub_value f (inf s) y a c b d C D u v h = absurd u
sub_value f (fin true m e) y a c b d C D u v h = absurd (true≢false u.0)
sub_value f (fin false m e) nan a c b d C D u v h = absurd v
sub_value f (fin false m e) (inf t) a c b d C D u v h = absurd v
sub_value f (fin false m e) (fin true n g) a c b d C D u v h = absurd (true≢false v.0)
sub_value f (fin false m e) (fin false n g) a c b d C D u v h =
    let x = m * up e in
    let y = n * up g in
    opened f m e n g
    ∙ pick f (x * down g) (y * down e) (down e * down g) (transfer y x (down g) (down e) b a d c D C v.1 u.1 h)
    ∙ round_same f false (x * down g - y * down e) (down e * down g) (a * d - b * c) (c * d) (mul-pos (down_pos e) (down_pos g)) (mul-pos C D)
    (less (c * d) (x * down g) (y * down e)
    ∙ ap (λ (z : ℕ). z - y * down e * (c * d)) (left x (down e) (down g) a c d u.1)
    ∙ ap (λ (z : ℕ). a * d * (down e * down g) - z) (right y (down e) (down g) b c d v.1)
    ∙ sym (less (down e * down g) (a * d) (b * c)))

-- ---- where nothing is rounded: q * 2 ^ t / 2 ^ k, for a q of no more digits than the format keeps
pub dyadic : (f : Format) (num q k t : ℕ) → num ≡ q * 2 ^ t → q < 2 ^ prec f → k ≤ low f → prec f + t ≤ suc (emax f) → HasValue (round f false num (2 ^ k)) false num (2 ^ k)
dyadic f num q k t n small K fine =
    let l = low f in
    let j = t + (l - k) in
    let e : 2 ^ j * 2 ^ k ≡ 2 ^ t * 2 ^ l = ap (λ (z : ℕ). z * 2 ^ k) (pow-add 2 t (l - k)) ∙ mul_assoc (2 ^ t) (2 ^ (l - k)) (2 ^ k) ∙ ap (λ (z : ℕ). 2 ^ t * z) (sym (pow-add 2 (l - k) k) ∙ ap (λ (z : ℕ). 2 ^ z) (back l k K)) in
    round_exact f false num (2 ^ k) q j (pow_pos k) small
    (lt_of_lt_of_le (shl q (prec f) j small) (pow_mono (room (prec f) t l k (suc (emax f)) fine)))
    (ap (λ (z : ℕ). z * 2 ^ l) n ∙ mul_assoc q (2 ^ t) (2 ^ l) ∙ ap (λ (z : ℕ). q * z) (sym e) ∙ sym (mul_assoc q (2 ^ j) (2 ^ k)))
  where
    shl : (a p i : ℕ) → a < 2 ^ p → a * 2 ^ i < 2 ^ (p + i)
    shl a p i h = shl_lt p i h

    room : (p t l k x : ℕ) → p + t ≤ x → p + (t + (l - k)) ≤ l + x
    room p t l k x h = omega arith

-- ---- a float's parts: its denominator is a power of two that the format reaches, and what is left of it below its whole part has no more digits than it has
pub record Held (f : Format) (m : ℕ) (e : ℤ) : Type 0 where
  pub k : ℕ
  pub k_le : k ≤ low f
  pub den_is : down e ≡ 2 ^ k
  pub rest_lt : m * up e % down e < 2 ^ prec f

no_one : (p : ℕ) → 1 < p → 1 * p ≡ 1 → ⊥
no_one p h e = omega arith

pub held : (f : Format) (s : Bool) (m : ℕ) (e : ℤ) → T (fits f (fin s m e)) → Held f m e
unfolding fits
held f s m (pos j) t = record { k = 0; k_le = zero-le; den_is = refl; rest_lt = subst (λ (z : ℕ). z < 2 ^ prec f) (sym (mod-one (m * 2 ^ j))) (pow_pos (prec f)) }
held f s zero (negsuc j) t = absurd (no_one (2 ^ suc j) (pow-lt (zero-lt-suc j)) (eqb→eq (1 * 2 ^ suc j) 1 t))
held f s (suc m) (negsuc j) t =
    let a : Bool = eqb (suc m % 2) 1 in
    let b : Bool = ltb (suc m) (2 ^ prec f) in
    let c : Bool = leb (2 ^ suc j) (2 ^ low f) in
    let d : Bool = ltb (suc m * 1) (2 ^ suc (emax f) * 2 ^ suc j) in
    let t' = and_l (a && b && c) d t in
    record {
      k = suc j;
      k_le = exponents (low f) (suc j) (leb→le (2 ^ suc j) (2 ^ low f) (and_r (a && b) c t'));
      den_is = refl;
      rest_lt = lt_of_le_of_lt (le_trans (mod-le (suc m * 1) (2 ^ suc j)) (le_of_eq (mul-one (suc m)))) (ltb→lt (suc m) (2 ^ prec f) (and_r a b (and_l (a && b) c t')));
    }
  where
    exponents : (l j : ℕ) → 2 ^ j ≤ 2 ^ l → j ≤ l
    exponents l j h = le_of_suc-le-suc (lt_of_not-le (λ (g : suc l ≤ j). not-le_of_lt (pow-lt g) h))

-- ---- a float less its whole part, exactly
rest_num : (a w r : ℕ) → w + r ≡ a → a * 1 - w ≡ r
rest_num a w r h = omega arith

rest_le : (a w r : ℕ) → w + r ≡ a → w ≤ a * 1
rest_le a w r h = omega arith

pub rest_value : (f : Format) (m : ℕ) (e : ℤ) → T (fits f (fin false m e)) → m * up e / down e ≤ 2 ^ prec f
    → HasValue (sub f (fin false m e) (of_int f (pos (m * up e / down e)))) false (m * up e % down e) (down e)
unfolding of_int
rest_value f m e t h =
    let a = m * up e in
    let d = down e in
    let w = a / d in
    let z = held f false m e t in
    let split : w * d + a % d ≡ a = div-add-mod' a d in
    let is : sub f (fin false m e) (round f false w 1) ≡ round f false (a % d) (2 ^ z.k) =
    sub_value f (fin false m e) (round f false w 1) a d w 1 (down_pos e) (zero-lt-suc 0) (refl, refl) (round_whole f false w h) (rest_le a (w * d) (a % d) split)
    ∙ ap (λ (x : ℕ). round f false x (d * 1)) (rest_num a (w * d) (a % d) split)
    ∙ ap (λ (x : ℕ). round f false (a % d) x) (mul-one d ∙ z.den_is) in
    subst (λ (x : ℕ). HasValue (sub f (fin false m e) (round f false w 1)) false (a % d) x) (sym z.den_is)
    (subst (λ (x : Float). HasValue x false (a % d) (2 ^ z.k)) (sym is)
    (dyadic f (a % d) (a % d) z.k 0 (sym (mul-one (a % d))) z.rest_lt z.k_le (subst (λ (x : ℕ). x ≤ suc (emax f)) (sym (add-zero (prec f))) (reach f))))

-- ---- how far rounding goes: half a unit at the most

-- what an ordering says of two numbers
abbrev Cmp : Ordering → ℕ → ℕ → Type 0
Cmp Ordering.lt a b = a < b
Cmp Ordering.eq a b = a ≡ b
Cmp Ordering.gt a b = b < a

cmp : (a b : ℕ) → Cmp (compare a b) a b
cmp a b = go (compare a b) (leb→le a b) (nleb→lt a b) (eqb→eq a b) (λ (e : a ≡ b). subst (λ (x : ℕ). T (eqb a x)) e (eqb_refl a))
  where
    go : (o : Ordering) → (T (is_le o) → a ≤ b) → (T (not (is_le o)) → b < a) → (T (compare_is_eq o) → a ≡ b) → (a ≡ b → T (compare_is_eq o)) → Cmp o a b
    go Ordering.lt h k e n = lt_of_le-ne (h tt) n
    go Ordering.eq h k e n = e tt
    go Ordering.gt h k e n = k tt

-- n and g are at most half of u apart
abbrev pub Near : ℕ → ℕ → ℕ → Type 0
Near n g u = (2 * n ≤ 2 * g + u) × (2 * g ≤ 2 * n + u)

one_more : (q r n u p : ℕ) → q + r ≡ n → p ≡ q + u → r < u → u ≤ r * 2 → Near n p u
one_more q r n u p e i h k = (omega arith, omega arith)

no_more : (q r n u : ℕ) → q + r ≡ n → r * 2 ≤ u → Near n q u
no_more q r n u e h = (omega arith, omega arith)

tie : (q r n u b p : ℕ) → q + r ≡ n → p ≡ q + b → r * 2 ≡ u → b ≤ u → Near n p u
tie q r n u b p e i h k = (omega arith, omega arith)

bit : (q : ℕ) → q % 2 ≤ 1
bit q = omega arith

pub closest_near : (n u : ℕ) → 0 < u → Near n (closest n u * u) u
closest_near n u U = go (compare (n % u * 2) u) (cmp (n % u * 2) u)
  where
    go : (o : Ordering) → Cmp o (n % u * 2) u → Near n (nearest (n / u) o * u) u
    go Ordering.lt h = no_more (n / u * u) (n % u) n u (div-add-mod' n u) (le_of_lt h)
    go Ordering.eq h = tie (n / u * u) (n % u) n u (n / u % 2 * u) ((n / u + n / u % 2) * u) (div-add-mod' n u) (add-mul (n / u) (n / u % 2) u) h (le_trans (mul-le-mul_right u (bit (n / u))) (le_of_eq (one-mul u)))
    go Ordering.gt h = one_more (n / u * u) (n % u) n u (suc (n / u) * u) (div-add-mod' n u) (suc-mul (n / u) u) (mod-lt n U) (le_of_lt h)

wider : (n g h u v : ℕ) → g ≡ h → u ≤ v → Near n g u → Near n h v
wider n g h u v e l w = (omega arith, omega arith)

spare : (z p l : ℕ) → z ≤ p + l → z - p ≤ l
spare z p l h = omega arith

-- a / c below 2 ^ (prec + K) of the format's smallest values is rounded by 2 ^ K of those, halved, at the most
pub grid_near : (f : Format) (a c K : ℕ) → 0 < c → a * 2 ^ low f < 2 ^ (prec f + K) * c → Near (a * 2 ^ low f) (grid f a c * c) (c * 2 ^ K)
grid_near f a c K C h =
    let n = a * 2 ^ low f in
    let k = drop (prec f) n c in
    wider n (closest n (c * 2 ^ k) * (c * 2 ^ k)) (grid f a c * c) (c * 2 ^ k) (c * 2 ^ K)
    (ap (λ (z : ℕ). closest n (c * 2 ^ k) * z) (mul_comm c (2 ^ k)) ∙ sym (mul_assoc (closest n (c * 2 ^ k)) (2 ^ k) c))
    (mul-le-mul_left c (pow_mono (spare (size (n / c)) (prec f) K (size-le (n / c) (prec f + K) ((div-lt_iff_lt-mul C).1 h)))))
    (closest_near n (c * 2 ^ k) (mul-pos C (pow_pos k)))

-- a common factor, which may be larger than `omega` reads
pub near_cancel : (p n g u : ℕ) → 0 < p → Near (n * p) (g * p) (u * p) → Near n g u
near_cancel p n g u P h = (
  le_of_mul-le-mul_right (le_trans (le_of_eq (mul_assoc 2 n p)) (le_trans h.0 (le_of_eq (both g)))) P,
  le_of_mul-le-mul_right (le_trans (le_of_eq (mul_assoc 2 g p)) (le_trans h.1 (le_of_eq (both n)))) P,
)
  where
    both : (k : ℕ) → 2 * (k * p) + u * p ≡ (2 * k + u) * p
    both k = ap (λ (z : ℕ). z + u * p) (sym (mul_assoc 2 k p)) ∙ sym (add-mul (2 * k) u p)

pub near_scale : (p n g u : ℕ) → Near n g u → Near (n * p) (g * p) (u * p)
near_scale p n g u h = (
  le_trans (le_of_eq (sym (mul_assoc 2 n p))) (le_trans (mul-le-mul_right p h.0) (le_of_eq (both g))),
  le_trans (le_of_eq (sym (mul_assoc 2 g p))) (le_trans (mul-le-mul_right p h.1) (le_of_eq (both n))),
)
  where
    both : (k : ℕ) → (2 * k + u) * p ≡ 2 * (k * p) + u * p
    both k = add-mul (2 * k) u p ∙ ap (λ (z : ℕ). z + u * p) (mul_assoc 2 k p)
