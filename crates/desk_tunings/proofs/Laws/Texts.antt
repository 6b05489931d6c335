-- Laws of the lines of a text: its first line, and the lines behind it.
-- Assumes nothing.
use borrow.Author.Tests.{eqb-true}
use mathlib.Core.Path.{◌≡◌, refl, sym, ap, ◌∙◌}
use mathlib.Core.Bool.{Bool, true, false, ◌&&◌}
use mathlib.Core.Logic.{⊎_elim}
use mathlib.Core.List.{List, [], ◌∷◌}
use Prim.Native.Nat.{ℕ, zero, suc, ◌+◌, ◌≤◌, ◌<◌}
use native.Mathlib.Omega.{arith}
use lib.Dec.{eqb}
use lib.ListN.{length, drop, get_or, length-drop}
use Rattle.std.specs.Prelude.{◌==◌}
use Rattle.util.specs.Pick.{pick}
use Rattle.desk_text.specs.Spans.{is_line_end, span}
use Rattle.desk_text.specs.Lines.{end_length, line_of, behind_line, lines_within, lines_of}
use Rattle.desk_text.proofs.Laws.Digits.{either}

pick_least : (t : Bool) → 1 ≤ pick t 2 1
pick_least true = omega arith
pick_least false = omega arith

end_least : (b : ℕ) (l : List ℕ) → 1 ≤ end_length (b ∷ l)
unfolding end_length
end_least b l = pick_least (eqb b 13 && eqb (get_or l 0 0) 10)

-- how many bytes a line and its end have
abbrev line_bytes : List ℕ → ℕ
line_bytes t = span is_line_end t + end_length (drop (span is_line_end t) t)

at_end : (b : ℕ) (l : List ℕ) → is_line_end b ≡ true → 1 ≤ line_bytes (b ∷ l)
unfolding span
at_end b l e = rw e (omega (arith, end_least b l))

within : (b : ℕ) (l : List ℕ) → is_line_end b ≡ false → 1 ≤ line_bytes (b ∷ l)
unfolding span
within b l e = rw e (omega arith)

line_least : (t : List ℕ) → 0 < length t → 1 ≤ line_bytes t
line_least [] h = absurd (omega arith)
line_least (b ∷ l) h = ⊎_elim (at_end b l) (within b l) (either (is_line_end b))

pub behind_less : (t : List ℕ) → 0 < length t → length (behind_line t) < length t
unfolding behind_line
behind_less t h = omega (arith, line_least t h, length-drop (line_bytes t) t)

lines_enough : (n m : ℕ) (t : List ℕ) → length t ≤ n → length t ≤ m → lines_within n t ≡ lines_within m t
unfolding lines_within
lines_enough zero zero t p q = refl
lines_enough zero (suc m) [] p q = refl
lines_enough zero (suc m) (b ∷ l) p q = absurd (omega arith)
lines_enough (suc n) zero [] p q = refl
lines_enough (suc n) zero (b ∷ l) p q = absurd (omega arith)
lines_enough (suc n) (suc m) [] p q = refl
lines_enough (suc n) (suc m) (b ∷ l) p q =
    let h = behind_less (b ∷ l) (omega arith) in
    ap (λ (ls : List (List ℕ)). line_of (b ∷ l) ∷ ls) (lines_enough n m (behind_line (b ∷ l)) (omega arith) (omega arith))

-- the lines of a text are the first and those behind it
pub lines_cons : (t : List ℕ) → 0 < length t → lines_of t ≡ line_of t ∷ lines_of (behind_line t)
unfolding lines_of lines_within
lines_cons [] h = absurd (omega arith)
lines_cons (b ∷ l) h =
    let k = behind_less (b ∷ l) (omega arith) in
    ap (λ (ls : List (List ℕ)). line_of (b ∷ l) ∷ ls) (lines_enough (length l) (length (behind_line (b ∷ l))) (behind_line (b ∷ l)) (omega arith) (omega arith))

pub lines_none : (t : List ℕ) → length t ≡ 0 → lines_of t ≡ []
unfolding lines_of lines_within
lines_none [] h = refl
lines_none (b ∷ l) h = absurd (omega arith)

-- what the test says whether bytes are none
pub nonempty : (t : Bool) (n : ℕ) → t ≡ (n == 0) → t ≡ false → 0 < n
nonempty t zero e f = let q : t ≡ true = e in let z : ◌≡◌ {A = ℕ} 0 1 = cc in absurd (omega arith)
nonempty t (suc n) e f = omega arith

pub empty : (t : Bool) (n : ℕ) → t ≡ (n == 0) → t ≡ true → n ≡ 0
empty t n e f = eqb-true n 0 (sym e ∙ f)
