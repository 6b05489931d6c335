-- Laws of the texts that are put: digits, texts of bytes one behind the other, and names without the spaces at their end.
-- Assumes nothing.
use mathlib.Core.Path.{◌≡◌, refl, sym, ap, ◌∙◌}
use mathlib.Core.Bool.{Bool, true, false}
use mathlib.Core.List.{List, [], ◌∷◌, ◌++◌, append_assoc, append-nil}
use Prim.Native.Nat.{ℕ, zero, suc, ◌+◌, ◌-◌, ◌*◌, ◌/◌, ◌%◌, ◌^◌, ◌≤◌, ◌<◌}
use native.Mathlib.Nat.{pow-suc, div-lt_iff_lt-mul, zero-lt-suc}
use native.Mathlib.Omega.{arith}
use lib.Dec.{ltb}
use lib.ListN.{length, take, get_or}
use lib.Seq.{take-suc, take_all}
use borrow.Author.Tests.{lt-ltb, le-ltb, ne_eqb}
use Rattle.io.specs.Digits.{last_digits as digits, IsDigitCount}
use Rattle.util.specs.Pick.{pick}
use Rattle.desk_print.specs.Output.{Gathering, Put}
use Rattle.desk_print.specs.Text.{last_digits, decimal_of, decimal, with_commas_of, with_commas, each, escaped, name_char, is_control_of, path_char, unless_last_space, trimmed, octave}
use Rattle.desk_print.proofs.Laws.{put_put, put_none, put_as}

-- ---- numbers

power_positive : (k : ℕ) → 0 < 10 ^ k
power_positive zero = omega arith
power_positive (suc k) = rw (pow-suc 10 k) (omega (arith, power_positive k))

-- the fewest digits, as many as the code found, are the number's text
decimal_within : (k f n : ℕ) → n < 10 ^ suc f → n < 10 ^ suc k → (0 < k → 10 ^ k ≤ n) → decimal_of f n ≡ digits 10 (suc k) n
unfolding decimal_of
decimal_within zero zero n l h r =
    let e : n % 10 ≡ n = omega arith in
    let g : ltb n 10 ≡ true = lt-ltb n 10 (omega arith) in rw (e, g)
decimal_within zero (suc f) n l h r =
    let e : n % 10 ≡ n = omega arith in
    let g : ltb n 10 ≡ true = lt-ltb n 10 (omega arith) in rw (e, g)
decimal_within (suc k) zero n l h r =
    let m : 10 ^ suc k ≤ n = r (omega arith) in
    let p : 10 ^ suc k ≡ 10 ^ k * 10 = pow-suc 10 k in absurd (omega (arith, power_positive k))
decimal_within (suc k) (suc f) n l h r =
    let m : 10 ^ suc k ≤ n = r (omega arith) in
    let p : 10 ^ suc k ≡ 10 ^ k * 10 = pow-suc 10 k in
    let z : 0 < 10 ^ k = power_positive k in
    let g : ltb n 10 ≡ false = le-ltb n 10 (omega arith) in
    let d : ltb (n % 10) 10 ≡ true = lt-ltb (n % 10) 10 (omega arith) in
    rw (g, d) (ap (λ (l : List ℕ). l ++ ((48 + n % 10) ∷ [])) (decimal_within k f (n / 10) (tenth f l) (tenth k h) (λ x. omega arith)))
  where
    tenth : (j : ℕ) → n < 10 ^ suc (suc j) → n / 10 < 10 ^ suc j
    tenth j t = (div-lt_iff_lt-mul (zero-lt-suc 9)).1 (rw pow-suc at t)

pub decimal_is : (k n : ℕ) → n < 18446744073709551616 → IsDigitCount 10 1 n k → digits 10 k n ≡ decimal n
unfolding decimal
decimal_is zero n l f = absurd (omega (arith, f.0))
decimal_is (suc k) n l f =
    let e : suc k - 1 ≡ k = omega arith in
    let least : 10 ^ (suc k - 1) ≤ n → 10 ^ k ≤ n = λ h. rw e at h in
    sym (decimal_within k 19 n (omega arith) f.1 (λ x. least (f.2 (omega arith))))

pub three_is : (n : ℕ) → (48 + n / 100 % 10) ∷ (48 + n / 10 % 10) ∷ (48 + n % 10) ∷ [] ≡ last_digits 3 n
unfolding last_digits
three_is n = let e : n / 10 / 10 % 10 ≡ n / 100 % 10 = omega arith in rw e

pub four_is : (n : ℕ) → ((48 + n / 1000 % 10) ∷ []) ++ last_digits 3 n ≡ last_digits 4 n
unfolding last_digits
four_is n = let e : n / 10 / 10 / 10 % 10 ≡ n / 1000 % 10 = omega arith in rw e

pub three_as : {a b d : ℕ} (n : ℕ) → a ≡ 48 + n / 100 % 10 → b ≡ 48 + n / 10 % 10 → d ≡ 48 + n % 10 → a ∷ b ∷ d ∷ [] ≡ last_digits 3 n
three_as n p q r = rw (p, q, r) (three_is n)

pub four_as : {a : ℕ} (n : ℕ) → a ≡ 48 + n / 1000 % 10 → (a ∷ []) ++ last_digits 3 n ≡ last_digits 4 n
four_as n p = rw p (four_is n)

-- ---- bytes

pub both_as : {a b c d : ℕ} → a ≡ c → b ≡ d → a ∷ b ∷ [] ≡ c ∷ d ∷ []
both_as p q = rw (p, q)

pub each_more : (f : ℕ → ℕ → List ℕ) (p : ℕ) (s : List ℕ) (i : ℕ) → i < length s
    → each f p (take (i + 1) s) ≡ each f p (take i s) ++ f (get_or (p ∷ s) i 0) (get_or s i 0)
unfolding each
each_more f p [] i h = absurd (omega arith)
each_more f p (b ∷ s) zero h = append-nil (f p b)
each_more f p (b ∷ s) (suc i) h =
    let e : suc i + 1 ≡ suc (i + 1) = omega arith in
    rw e (ap (λ (l : List ℕ). f p b ++ l) (each_more f b s i (omega arith)) ∙ sym (append_assoc (f p b) (each f b (take i s)) (f (get_or (b ∷ s) i 0) (get_or s i 0))))

-- ---- a loop that puts the text of each byte

module _ (f : ℕ → ℕ → List ℕ) (s : List ℕ) where
  pub each_begin : (o : Gathering) → Put o (each f 0 (take 0 s)) o
  unfolding each
  each_begin o = put_none o

  pub each_turn : {o a b : Gathering} (i : ℕ) → i < length s → Put o (each f 0 (take i s)) a → Put a (f (get_or (0 ∷ s) i 0) (get_or s i 0)) b
      → Put o (each f 0 (take (i + 1) s)) b
  each_turn i h p q = put_as (sym (each_more f 0 s i h)) (put_put p q)

  pub each_end : {o a : Gathering} (i : ℕ) → length s ≤ i → Put o (each f 0 (take i s)) a → Put o (each f 0 s) a
  each_end i h p = put_as (ap (each f 0) (take_all i s h)) p

-- ---- characters

pub char_low : (p b : ℕ) → b < 32 → escaped b ≡ name_char p b
char_low p b h = rw (lt-ltb b 32 h)

pub char_high : (p b : ℕ) → 32 ≤ b → 126 < b → escaped b ≡ name_char p b
char_high p b h g = rw (le-ltb b 32 h, lt-ltb 126 b g)

pub path_escaped : {x b : ℕ} {r : Bool} (p : ℕ) → x ≡ b → r ≡ is_control_of p b → r ≡ true → escaped x ≡ path_char p b
path_escaped {x} {b} {r} p e q t = ap escaped e ∙ ap (λ (z : Bool). pick z (escaped b) (b ∷ [])) (sym t ∙ q)

-- ---- keys

pub octave_low : (k : ℕ) → k < 12 → 45 ∷ 49 ∷ [] ≡ octave k
octave_low k h = rw (lt-ltb k 12 h)

pub octave_high : (k : ℕ) → 12 ≤ k → decimal (k / 12 - 1) ≡ octave k
octave_high k h = rw (le-ltb k 12 h)

-- ---- the spaces at the end of a name

-- a space at the end makes no difference
trimmed_space : (s : List ℕ) → trimmed (s ++ (32 ∷ [])) ≡ trimmed s
unfolding trimmed
trimmed_space [] = refl
trimmed_space (b ∷ s) = ap (unless_last_space b) (trimmed_space s)

front : (b c : ℕ) (s : List ℕ) → unless_last_space b (s ++ (c ∷ [])) ≡ b ∷ (s ++ (c ∷ []))
front b c [] = refl
front b c (x ∷ s) = refl

-- a name whose last byte is no space stays as it is
trimmed_other : (s : List ℕ) (b : ℕ) → (b ≡ 32 → ⊥) → trimmed (s ++ (b ∷ [])) ≡ s ++ (b ∷ [])
unfolding trimmed
trimmed_other [] b n = rw (ne_eqb b 32 n)
trimmed_other (x ∷ s) b n = ap (unless_last_space x) (trimmed_other s b n) ∙ front x b s

module _ (s : List ℕ) (n : ℕ) (p : 0 < n) (h : n ≤ length s) where
  last_apart : take n s ≡ take (n - 1) s ++ (get_or s (n - 1) 0 ∷ [])
  last_apart = let e : n ≡ suc (n - 1) = omega arith in ap (λ (k : ℕ). take k s) e ∙ take-suc s (n - 1) 0 (omega arith)

  trimmed_less : get_or s (n - 1) 0 ≡ 32 → trimmed (take n s) ≡ trimmed s → trimmed (take (n - 1) s) ≡ trimmed s
  trimmed_less e t =
      sym (trimmed_space (take (n - 1) s))
      ∙ ap (λ (b : ℕ). trimmed (take (n - 1) s ++ (b ∷ []))) (sym e)
      ∙ ap trimmed (sym last_apart)
      ∙ t

  trimmed_here : (get_or s (n - 1) 0 ≡ 32 → ⊥) → trimmed (take n s) ≡ trimmed s → take n s ≡ trimmed s
  trimmed_here e t = last_apart ∙ sym (trimmed_other (take (n - 1) s) (get_or s (n - 1) 0) e) ∙ ap trimmed (sym last_apart) ∙ t

-- where only spaces stand from a place on, they make no difference
trimmed_from : (s : List ℕ) (d n : ℕ) → n + d ≡ length s → ((k : ℕ) → n ≤ k → k < length s → get_or s k 0 ≡ 32) → trimmed (take n s) ≡ trimmed s
trimmed_from s zero n e h = ap trimmed (take_all n s (omega arith))
trimmed_from s (suc d) n e h =
    let i : n + 1 - 1 ≡ n = omega arith in
    rw i at (trimmed_less s (n + 1) (omega arith) (omega arith) (rw i (h n (omega arith) (omega arith))) (trimmed_from s d (n + 1) (omega arith) (λ k l m. h k (omega arith) m)))

-- the name up to its last byte that is no space
pub trimmed_at : (s : List ℕ) (i : ℕ) → i < length s → (get_or s i 0 ≡ 32 → ⊥) → ((k : ℕ) → i + 1 ≤ k → k < length s → get_or s k 0 ≡ 32) → take (i + 1) s ≡ trimmed s
trimmed_at s i l e h =
    let j : i + 1 - 1 ≡ i = omega arith in
    trimmed_here s (i + 1) (omega arith) (omega arith) (rw j e) (trimmed_from s (length s - (i + 1)) (i + 1) (omega arith) h)

-- a name of spaces alone
pub trimmed_none : (s : List ℕ) → ((k : ℕ) → 0 ≤ k → k < length s → get_or s k 0 ≡ 32) → [] ≡ trimmed s
unfolding trimmed
trimmed_none s h = trimmed_from s (length s) 0 (omega arith) h

-- ---- commas

-- a larger bound on the number of digits makes no difference
commas_within : (j k n : ℕ) → n < 1000 ^ suc j → j ≤ k → with_commas_of k n ≡ with_commas_of j n
unfolding with_commas_of
commas_within zero zero n h l = refl
commas_within zero (suc k) n h l = rw (lt-ltb n 1000 (omega arith))
commas_within (suc j) zero n h l = absurd (omega arith)
commas_within (suc j) (suc k) n h l =
    let q : n / 1000 < 1000 ^ suc j = (div-lt_iff_lt-mul (zero-lt-suc 999)).1 (rw pow-suc at h) in
    rw (commas_within j k (n / 1000) q (omega arith))

pub commas_few : (n : ℕ) → n < 1000 → decimal n ≡ with_commas n
unfolding with_commas with_commas_of
commas_few n h = rw (lt-ltb n 1000 h)

commas_apart : (n : ℕ) → 1000 ≤ n → with_commas_of 6 n ≡ with_commas_of 5 (n / 1000) ++ (44 ∷ last_digits 3 n)
unfolding with_commas_of
commas_apart n h = rw (le-ltb n 1000 h)

pub commas_more : (n : ℕ) → 1000 ≤ n → n < 18446744073709551616 → with_commas (n / 1000) ++ (44 ∷ last_digits 3 n) ≡ with_commas n
unfolding with_commas
commas_more n h l =
    ap (λ (t : List ℕ). t ++ (44 ∷ last_digits 3 n)) (commas_within 5 6 (n / 1000) (omega arith) (omega arith)) ∙ sym (commas_apart n h)
