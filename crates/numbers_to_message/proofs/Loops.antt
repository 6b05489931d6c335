-- Laws of the proofs: the loop type of a number is that of its byte.
-- Assumes nothing.
use mathlib.Core.Path.{◌≡◌, refl, sym, ap, ◌∙◌}
use mathlib.Core.List.{List, [], ◌∷◌}
use mathlib.Core.Option.{none, some}
use mathlib.Core.Bool.{Bool, true, false}
use Prim.Native.Nat.{ℕ, ◌^◌}
use lib.Dec.{ltb}
use lib.ListN.{get_or}
use borrow.Author.Tests.{ne_eqb}
use Rattle.std.specs.Prelude.{Some, None}
use Rattle.std.specs.Prelude as std
use Rattle.util.specs.Pick.{pick}
use Rattle.messages.specs.declared.sample_dump.LoopType.{LoopType}
use Rattle.messages.specs.declared.sample_dump.LoopType.TheVariants as loop
use Rattle.messages.specs.declared.sample_dump.ExtendedLoopType.{ExtendedLoopType}
use Rattle.messages.specs.declared.sample_dump.ExtendedLoopType.TheVariants as ext
use Rattle.messages.specs.Structures.{Named, loop_code, loop_byte, extended_loop_code, extended_loop_byte}
use Rattle.messages.proofs.Loops.{one_byte, extended_one_byte}
use Rattle.numbers_to_message.specs.Values.{below, numbered, loop_types, extended_loop_types}
use Rattle.numbers_to_message.specs.Fits.{option_of}

pub loop_back : (t : LoopType) → numbered loop_byte loop_types (loop_byte t) ≡ some t
loop_back loop.Forward = refl
loop_back loop.BiDirectional = refl
loop_back loop.Off = refl

pub extended_loop_back : (t : ExtendedLoopType) → numbered extended_loop_byte extended_loop_types (extended_loop_byte t) ≡ some t
extended_loop_back ext.Forward = refl
extended_loop_back ext.BiDirectional = refl
extended_loop_back ext.ForwardRelease = refl
extended_loop_back ext.BiDirectionalRelease = refl
extended_loop_back ext.Backward = refl
extended_loop_back ext.BackwardBiDirectional = refl
extended_loop_back ext.BackwardRelease = refl
extended_loop_back ext.BackwardBiDirectionalRelease = refl
extended_loop_back ext.BackwardOneShot = refl
extended_loop_back ext.OneShot = refl

-- a number that is no value's
numbered_none : {A : Type 0} (f : A → ℕ) (l : List A) (x : ℕ) → ((a : A) → f a ≡ x → ⊥) → numbered f l x ≡ none
numbered_none f [] x h = refl
numbered_none f (a ∷ l) x h = rw (ne_eqb x (f a) (λ e. h a (sym e))) (numbered_none f l x h)

module _ {A : Type 0} (code : A → List ℕ) (byte : A → ℕ) (l : List A) (one : (a : A) → code a ≡ byte a ∷ []) where
  of_byte : ((a : A) → numbered byte l (byte a) ≡ some a) → (b : ℕ) (o : std.Option A) → Named code b o → o ≡ option_of (numbered byte l b)
  of_byte back b (Some a) n = ap option_of (sym (back a) ∙ ap (numbered byte l) (ap (λ (x : List ℕ). get_or x 0 0) (sym (one a) ∙ n)))
  of_byte back b None n = ap option_of (sym (numbered_none byte l b (λ a q. n a (one a ∙ ap (λ (x : ℕ). x ∷ []) q))))

-- a number below a limit is itself
pub below_is : (b : Bool) (x k : ℕ) → Some k ≡ option_of (pick b (some x) none) → k ≡ x
below_is true x k e = cc
below_is false x k e = cc

pub loop_of_byte : (x b : ℕ) (o : std.Option LoopType) → Some b ≡ option_of (below (2 ^ 8) x) → Named loop_code b o → o ≡ option_of (numbered loop_byte loop_types x)
loop_of_byte x b o e n = of_byte loop_code loop_byte loop_types one_byte loop_back b o n ∙ ap (λ (y : ℕ). option_of (numbered loop_byte loop_types y)) (below_is (ltb x (2 ^ 8)) x b e)

pub extended_loop_of_byte : (x b : ℕ) (o : std.Option ExtendedLoopType) → Some b ≡ option_of (below (2 ^ 8) x) → Named extended_loop_code b o
    → o ≡ option_of (numbered extended_loop_byte extended_loop_types x)
extended_loop_of_byte x b o e n =
    of_byte extended_loop_code extended_loop_byte extended_loop_types extended_one_byte extended_loop_back b o n
    ∙ ap (λ (y : ℕ). option_of (numbered extended_loop_byte extended_loop_types y)) (below_is (ltb x (2 ^ 8)) x b e)
