-- What the answers of the entry points below are in numbers. Assumes nothing.
use mathlib.Core.Path.{◌≡◌, refl, sym, ap, subst, ◌∙◌}
use mathlib.Core.Bool.{Bool}
use mathlib.Core.List.{List, ◌∷◌, ◌++◌}
use Prim.Native.Nat.{ℕ, ◌≤◌}
use native.Mathlib.Omega.{arith}
use lib.Dec.{leb}
use lib.ListN.{length, take, drop, replicate}
use borrow.Author.Tests.{le-leb, le-ltb}
use Rattle.util.specs.Pick.{pick}
use Rattle.util.specs.Splice.{overwritten}
use Rattle.messages.specs.declared.system_exclusive.ManufacturerID.{ManufacturerID}
use Rattle.messages.specs.declared.system_exclusive.ManufacturerID.TheVariants.{OneByte, Extended}
use Rattle.messages.specs.declared.system_exclusive.IdentityReply.{IdentityReply}
use Rattle.std.specs.Prelude.{Option, Ok, Err}
use Rattle.messages.specs.Identity.{identity_of}
use Rattle.util.specs.declared.refusal.Refusal.{Refusal}
use Rattle.util.specs.Refusals.{number}
use Rattle.numbers_of_message.specs.Put.{Put}
use Rattle.pasoreum.specs.Identity.{identity_number, identity_answer}
use Rattle.numbers_of_message.specs.Numbers.{field_numbers, maker, after_maker}
use Rattle.messages.specs.declared.file_reference.Kind.{Kind}
use Rattle.pasoreum.specs.Walk.{walk_number, walk_value, walk_index}
use Rattle.pasoreum.specs.Read.{ReadAs, Kept}

-- the walk for what was named
pub walked_as : {x y : Option Kind} → x ≡ y → (s ix ix' : List ℕ) (n v : ℕ) → n ≡ walk_number y s ix → v ≡ walk_value y s ix → ix' ≡ walk_index y s ix
    → (n ≡ walk_number x s ix) × ((v ≡ walk_value x s ix) × (ix' ≡ walk_index x s ix))
walked_as e s ix ix' n v p q r =
    subst (λ (z : Option Kind). (n ≡ walk_number z s ix) × ((v ≡ walk_value z s ix) × (ix' ≡ walk_index z s ix))) (sym e) (p, (q, r))

-- a reading for what was named, with a short answer or a long one
pub read_as : {x y : Option Kind} {a b : Bool} → x ≡ y → a ≡ b → (n : ℕ) (frame dat dat' es es' answer answer' : List ℕ)
    → ReadAs y b n frame dat dat' es es' answer answer' → ReadAs x a n frame dat dat' es es' answer answer'
read_as {x} {y} {a} {b} e f n frame dat dat' es es' answer answer' r =
    subst (λ (z : Option Kind). ReadAs z a n frame dat dat' es es' answer answer') (sym e)
    (subst (λ (t : Bool). ReadAs y t n frame dat dat' es es' answer answer') (sym f) r)

-- nothing is altered under a refusal of the boundary's own
pub kept : (n : ℕ) (dat es answer : List ℕ) → Kept n n dat dat es es answer answer
kept n dat es answer = record { number_is = refl; data_is = refl; entries_are = refl; answer_is = refl }

-- the nine numbers of a reply behind head code and device
pub nine : (k : ManufacturerID) (r : IdentityReply) (row : List ℕ)
    → row ≡ pick (leb (length (0x0602 ∷ 0 ∷ field_numbers (maker k ++ after_maker r))) 11) (overwritten (0x0602 ∷ 0 ∷ field_numbers (maker k ++ after_maker r)) (replicate 11 0)) (replicate 11 0)
    → take 9 (drop 2 row) ≡ field_numbers (maker k ++ after_maker r)
nine (OneByte m) r row e = ap (λ (l : List ℕ). take 9 (drop 2 l)) e
nine (Extended m n) r row e = ap (λ (l : List ℕ). take 9 (drop 2 l)) e

nine_long : (k : ManufacturerID) (r : IdentityReply) → length (field_numbers (maker k ++ after_maker r)) ≡ 9
nine_long (OneByte m) r = refl
nine_long (Extended m n) r = refl

-- a reply was put into an answer of nine places or more
pub replied : (bytes answer answer' : List ℕ) (r : IdentityReply) (n : ℕ) → 9 ≤ length answer → Ok r ≡ identity_of bytes
    → Put (field_numbers (maker r.id ++ after_maker r)) answer answer' n → (0 ≡ identity_number bytes answer) × (answer' ≡ identity_answer bytes answer)
replied bytes answer answer' r n h e p =
    let q : length (field_numbers (maker r.id ++ after_maker r)) ≤ length answer = omega (arith, nine_long r.id r) in
    (rw (le-ltb (length answer) 9 h, ← e), p.there ∙ rw (le-leb _ _ q, le-ltb (length answer) 9 h, ← e))

-- identity reading refused
pub unreplied : (bytes answer : List ℕ) (r : Refusal) (n : ℕ) → 9 ≤ length answer → Err r ≡ identity_of bytes → n ≡ number r
    → (n ≡ identity_number bytes answer) × (answer ≡ identity_answer bytes answer)
unreplied bytes answer r n h e p = (p ∙ rw (le-ltb (length answer) 9 h, ← e), rw (le-ltb (length answer) 9 h, ← e))
