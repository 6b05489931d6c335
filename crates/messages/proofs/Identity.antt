-- Identity reading answers as the first row that applies, and a settled reply, written and read by it, comes back.
-- Assumes nothing.
use mathlib.Core.Path.{◌≡◌, refl, ap}
use mathlib.Core.Bool.{Bool, true, false}
use mathlib.Core.Option.{some}
use mathlib.Core.List.{List, [], ◌∷◌}
use Prim.Native.Nat.{ℕ, ◌/◌, ◌%◌, ◌^◌, ◌<◌}
use native.Mathlib.Nat.{mod-lt, zero-lt-suc}
use native.Mathlib.Omega.{arith}
use borrow.Author.Tests.{lt-ltb, le-ltb, ne_eqb}
use Rattle.util.specs.Pick.{pick}
use Rattle.util.specs.Refusals.{number}
use Rattle.util.proofs.Laws.Groups.{value_groups}
use Rattle.util.proofs.Laws.Refusals.{number_some}
use Rattle.messages.specs.Types.{Refusal, ManufacturerID, IdentityReply}
use Rattle.messages.specs.declared.system_exclusive.ManufacturerID.TheVariants.{OneByte, Extended}
use Rattle.std.specs.declared.result.Result.TheVariants.{Ok, Err}
use Rattle.messages.specs.Structures.{AfterMaker, reply, revision, identity_reply}
use Rattle.messages.specs.Identity.{Row, first_of, first_number, rows, reply_in, identity_of, identity_number, identity_value}
use Rattle.messages.specs.Promises.{IdentityExactly, IdentityBack}

-- ---- the first row that applies

-- one row before others, by its test
number_by : (t : Bool) (x : Refusal) (xs : List Row) (r : IdentityReply) → identity_number (first_of xs r) ≡ first_number xs
    → identity_number (pick t (Err x) (first_of xs r)) ≡ pick t (number x) (first_number xs)
number_by true x xs r e = refl
number_by false x xs r e = e

first_numbered : (xs : List Row) (r : IdentityReply) → identity_number (first_of xs r) ≡ first_number xs
first_numbered [] r = refl
first_numbered (x ∷ xs) r = number_by x.0 x.1 xs r (first_numbered xs r)

value_by : (t : Bool) (x : Refusal) (xs : List Row) (r : IdentityReply) → (first_number xs ≡ 0 → identity_value (first_of xs r) ≡ some r)
    → pick t (number x) (first_number xs) ≡ 0 → identity_value (pick t (Err x) (first_of xs r)) ≡ some r
value_by true x xs r k e = absurd (omega (arith, number_some x))
value_by false x xs r k e = k e

first_given : (xs : List Row) (r : IdentityReply) → first_number xs ≡ 0 → identity_value (first_of xs r) ≡ some r
first_given [] r e = refl
first_given (x ∷ xs) r e = value_by x.0 x.1 xs r (first_given xs r) e

pub identity_exactly : IdentityExactly
unfolding identity_of
identity_exactly l = (first_numbered (rows l) (reply_in l), first_given (rows l) (reply_in l))

-- ---- a settled reply

low : (v : ℕ) → v % 128 < 128
low v = mod-lt v (zero-lt-suc 127)

one : (v : ℕ) → v < 128 ^ 1 → v % 128 ≡ v
one v h = omega arith

back : (m : ManufacturerID) (x : AfterMaker) → identity_reply.settled (reply m x)
    → identity_of (0x06 ∷ 0x02 ∷ identity_reply.bytes (reply m x)) ≡ Ok (reply m x)
unfolding identity_of
back (OneByte b) x h =
    rw (
      le-ltb 127 b (omega arith),
      ne_eqb b 0 (λ e. omega arith),
      lt-ltb (x.0 % 128) 128 (low x.0),
      lt-ltb (x.0 / 128 % 128) 128 (low (x.0 / 128)),
      lt-ltb (x.1.0 % 128) 128 (low x.1.0),
      lt-ltb (x.1.0 / 128 % 128) 128 (low (x.1.0 / 128)),
      value_groups 2 x.0 h.1.0,
      value_groups 2 x.1.0 h.1.1.0,
      one x.1.1.0 h.1.1.1.0,
      one x.1.1.1.0 h.1.1.1.1.0,
      one x.1.1.1.1.0 h.1.1.1.1.1.0,
      one x.1.1.1.1.1 h.1.1.1.1.1.1,
    )
back (Extended a b) x h =
    rw (
      le-ltb 127 (a % 128) (omega (arith, low a)),
      le-ltb 127 (b % 128) (omega (arith, low b)),
      lt-ltb (x.0 % 128) 128 (low x.0),
      lt-ltb (x.0 / 128 % 128) 128 (low (x.0 / 128)),
      lt-ltb (x.1.0 % 128) 128 (low x.1.0),
      lt-ltb (x.1.0 / 128 % 128) 128 (low (x.1.0 / 128)),
      one a h.0.0.1.0,
      one b h.0.0.1.1,
      value_groups 2 x.0 h.1.0,
      value_groups 2 x.1.0 h.1.1.0,
      one x.1.1.0 h.1.1.1.0,
      one x.1.1.1.0 h.1.1.1.1.0,
      one x.1.1.1.1.0 h.1.1.1.1.1.0,
      one x.1.1.1.1.1 h.1.1.1.1.1.1,
    )

pub identity_back : IdentityBack
identity_back r h =
    let e = back r.id (r.family, (r.family_member, revision r.software_revision)) h in
    (ap identity_number e, ap identity_value e)
