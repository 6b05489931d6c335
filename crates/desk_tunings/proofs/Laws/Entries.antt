-- Laws of the entries that lines say: a good line, a wrong one, and the entries that are filled.
-- Assumes nothing.
use mathlib.Core.Path.{◌≡◌, refl, ap, ◌∙◌}
use mathlib.Core.Bool.{Bool, true, false}
use mathlib.Core.List.{List, [], ◌∷◌}
use Prim.Native.Nat.{ℕ, zero, suc, ◌+◌, ◌≤◌, ◌<◌}
use native.Mathlib.Omega.{arith}
use lib.Dec.{leb, eqb}
use lib.ListN.{length, get_or}
use Rattle.std.specs.Prelude.{Some, None, Ok, Err}
use Rattle.util.specs.Pick.{pick}
use Rattle.desk_text.specs.Lines.{line_of, behind_line, lines_of}
use Rattle.desk_tunings.specs.declared.said.LineError.TheVariants.{NoKey, Twice}
use Rattle.desk_tunings.specs.declared.keys.LinesError.{LinesError}
use Rattle.desk_tunings.specs.declared.keys.LinesError.TheVariants.{Line}
use Rattle.desk_tunings.specs.Lines.{Said, said_line}
use Rattle.desk_tunings.specs.Keys.{Lines, untold, good_lines, set_by, put_answer, put_entries, read_lines, filled_entry, filled_from}
use Rattle.desk_tunings.proofs.Laws.Texts.{lines_cons, lines_none}

pick_set : (t u : Bool) (n c : ℕ) → set_by (pick t (Err (Line n NoKey)) (pick u (Ok (c + 1)) (Err (Line n Twice)))) ≤ c + 1
unfolding set_by
pick_set true u n c = omega arith
pick_set false true n c = omega arith
pick_set false false n c = omega arith

-- a line sets one key at most
put_most : (x : Said) (n c : ℕ) (es : List ℕ) → set_by (put_answer x n c es) ≤ c + 1
unfolding put_answer set_by
put_most (Ok (Some (key, e))) n c es = pick_set (leb (length es) key) (eqb (get_or es key 0) untold) n c
put_most (Ok None) n c es = omega arith
put_most (Err e) n c es = omega arith

-- the number of keys that a good line leaves set
pub put_set : (x : Said) (n c k : ℕ) (es : List ℕ) → ◌≡◌ {A = Lines} (Ok k) (put_answer x n c es) → k ≤ c + 1
unfolding set_by
put_set x n c k es e = let m = put_most x n c es in let z : k ≡ set_by (put_answer x n c es) = ap set_by e in omega arith

-- a text's first line, and the lines behind it
module _ (t : List ℕ) (n c : ℕ) (es es' : List ℕ) (h : 0 < length t) (b : es' ≡ put_entries (said_line (line_of t)) es) where
  pub good_turn : (k : ℕ) → ◌≡◌ {A = Lines} (Ok k) (put_answer (said_line (line_of t)) (n + 1) c es)
      → read_lines (lines_of (behind_line t)) (n + 1) k es' ≡ read_lines (lines_of t) n c es
  unfolding read_lines good_lines set_by
  good_turn k a = rw (lines_cons t h, ← a, ← b)

  pub wrong_turn : (e : LinesError) → ◌≡◌ {A = Lines} (Err e) (put_answer (said_line (line_of t)) (n + 1) c es)
      → ◌≡◌ {A = Lines × List ℕ} (Err e, es') (read_lines (lines_of t) n c es)
  unfolding read_lines good_lines
  wrong_turn e a = rw (lines_cons t h, ← a, ← b)

-- no line is left
pub no_line : (t : List ℕ) (n c : ℕ) (es : List ℕ) → length t ≡ 0 → ◌≡◌ {A = Lines × List ℕ} (Ok c, es) (read_lines (lines_of t) n c es)
unfolding read_lines
no_line t n c es h = rw (lines_none t h)

pub filled_length : (key : ℕ) (es : List ℕ) → length (filled_from key es) ≡ length es
unfolding filled_from
filled_length key [] = refl
filled_length key (e ∷ es) = ap suc (filled_length (suc key) es)

pub filled_at : (key : ℕ) (es : List ℕ) (k : ℕ) → k < length es → get_or (filled_from key es) k 0 ≡ filled_entry (get_or es k 0) (key + k)
unfolding filled_from
filled_at key [] k h = absurd (omega arith)
filled_at key (e ∷ es) zero h = let z : key ≡ key + 0 = omega arith in ap (filled_entry e) z
filled_at key (e ∷ es) (suc k) h =
    let z : suc key + k ≡ key + suc k = omega arith in
    filled_at (suc key) es k (omega arith) ∙ ap (filled_entry (get_or es k 0)) z
