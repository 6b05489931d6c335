-- Laws of the gathered output: how puts compose.
-- Assumes nothing.
use mathlib.Core.Path.{◌≡◌, refl, sym, subst, ap, ◌∙◌}
use mathlib.Core.Bool.{true, false}
use mathlib.Core.List.{List, [], ◌++◌, append_assoc, append-nil}
use Prim.Native.Nat.{ℕ, ◌+◌, ◌≤◌, ◌<◌}
use native.Mathlib.Omega.{arith}
use lib.ListN.{length}
use Rattle.desk_print.specs.Output.{Gathering, count_of, gathered, Sound, Put, Failed, Gathered, Flushed, Added}

-- ---- puts

pub put_put : {a b c : Gathering} {t u : List ℕ} → Put a t b → Put b u c → Put a (t ++ u) c
put_put {a} {b} {c} {t} {u} p q =
    record {
      written = p.written ++ q.written;
      whole = λ s.
          append_assoc p.written q.written (gathered c)
          ∙ ap (λ (l : List ℕ). p.written ++ l) (q.whole s)
          ∙ sym (append_assoc p.written (gathered b) u)
          ∙ ap (λ (l : List ℕ). l ++ u) (p.whole (q.sound s))
          ∙ append_assoc (gathered a) t u;
      sound = λ s. p.sound (q.sound s);
    }

pub put_none : (a : Gathering) → Put a [] a
put_none a = record { written = []; whole = λ s. sym (append-nil (gathered a)); sound = λ s. s }

-- the same of a text that is equal
pub put_as : {a b : Gathering} {t u : List ℕ} → t ≡ u → Put a t b → Put a u b
put_as {a} {b} {t} {u} e p =
    record { written = p.written; whole = λ s. p.whole s ∙ ap (λ (l : List ℕ). gathered a ++ l) e; sound = p.sound }

-- a text that was gathered is put
pub put_gathered : {a b : Gathering} {t : List ℕ} → Gathered a t b → Put a t b
put_gathered g = record { written = []; whole = λ s. g.joined; sound = λ s. sym g.flag ∙ s }

-- where nothing is gathered afterwards, all has left the room
pub put_empty : {a b : Gathering} (t : List ℕ) → gathered b ≡ [] → (Sound b → Sound a) → Put a t b
put_empty {a} {b} t e s =
    record {
      written = gathered a ++ t;
      whole = λ r. ap (λ (l : List ℕ). (gathered a ++ t) ++ l) e ∙ append-nil (gathered a ++ t);
      sound = s;
    }

-- once a write has failed, nothing is said
pub put_failed : {a b : Gathering} {t : List ℕ} → (Sound b → ⊥) → Put a t b
put_failed n = record { written = []; whole = λ s. absurd (n s); sound = λ s. absurd (n s) }

-- a text is put after what was gathered has left the room, from a state that is the same
pub put_flushed : {a b c d e : Gathering} {t : List ℕ} → b ≡ a → Flushed b c → d ≡ c → Put d t e → Put a t e
put_flushed {a} {b} {c} {d} {e} {t} p f q r =
    subst (λ (x : Gathering). Put x t e) p (put_put f.put (subst (λ (x : Gathering). Put x t e) q r))

pub true_false : true ≡ false → ⊥
true_false e = let z : ◌≡◌ {A = ℕ} 0 1 = cc in omega arith

pub flushed : {a b : Gathering} → gathered b ≡ [] → (Sound b → Sound a) → Flushed a b
flushed {a} {b} e s = record { put = put_empty [] e s; none = ap length e; empty = e }

-- the room is cleared after a write that altered nothing, unless it has failed
pub flushed_after : {a b c : Gathering} → (Sound b → b ≡ a) → gathered c ≡ [] → c.is_failed ≡ b.is_failed → Flushed a c
flushed_after {a} {b} {c} e g k =
    flushed g (λ s. let z = sym k ∙ s in subst (λ (x : Gathering). Sound x) (e z) z)

pub failed_not_sound : {a b : Gathering} → Failed a b → Sound b → ⊥
failed_not_sound f s = true_false (sym f.flag ∙ s)

-- ---- the three ways of adding a text

pub added_here : {a b : Gathering} {t : List ℕ} → count_of a + length t ≤ 65535 → Gathered a t b → Added a t b
added_here h g = record { put = put_gathered g; room = λ r. g; next = λ r l. absurd (omega arith) }

pub added_next : {a b c d : Gathering} {t : List ℕ} → b ≡ a → 65535 < count_of a + length t → Flushed b c → Gathered c t d → Added a t d
added_next {a} {b} {c} {d} {t} e h f g =
    record {
      put = put_flushed e f refl (put_gathered g);
      room = λ r. absurd (omega arith);
      next = λ r l. g.joined ∙ ap (λ (x : List ℕ). x ++ t) f.empty;
    }

pub added_sent : {a b c d e : Gathering} {t : List ℕ} → b ≡ a → 65535 < count_of a + length t → Flushed b c → d ≡ c → 65535 < count_of c + length t → Put d t e → Added a t e
added_sent p h f q k r =
    record { put = put_flushed p f q r; room = λ x. absurd (omega arith); next = λ x l. absurd (omega (arith, f.none)) }
