-- `read_file_reference::texts::url_length` meets its contract, by the place of the first 00.
-- Assumes nothing.
use mathlib.Core.Path.{◌≡◌, subst}
use mathlib.Core.List.{List}
use Prim.Native.Nat.{ℕ}
use native.Mathlib.Omega.{arith}
use Rattle.std.specs.Prelude.{Option, Some, None}
use Rattle.util.specs.Groups.{Seven}
use Rattle.read_file_reference.specs.Texts.{Ends}
use Rattle.read_file_reference.proofs.Laws.Texts.{url_ends, url_endless, url_over}
use Rattle.read_file_reference.proofs.texts.url_length.Goals as goal

-- what holds of the bytes holds of the fields
of_fields : (f g : List ℕ) (i : ℕ) (r : Option ℕ) → f ≡ g → Seven f → Ends r f i → Seven g × Ends r g i
of_fields f g i r e s h = subst (λ (l : List ℕ). Seven l × Ends r l i) e (s, h)

pub returns-in_err-length : goal.returns-in_err-length
returns-in_err-length c =
    let f = c.f.inside.bytes.now in
    rw c.from_residual.ensures (of_fields f c.args.f.now c.args.start None c.f.view_is c.f.invariant (url_endless f c.args.start c.f.invariant c.in_err-length.ensures))

pub returns-then-length-gt-MOST_URL : goal.returns-then-length-gt-MOST_URL
returns-then-length-gt-MOST_URL c =
    let f = c.f.inside.bytes.now in
    of_fields f c.args.f.now c.args.start None c.f.view_is c.f.invariant
    (url_over f c.args.start c.f.invariant c.in_ok-length.length c.in_ok-length.ensures (omega (arith, c.if-length-gt-MOST_URL.true)))

pub returns : goal.returns
returns c =
    let f = c.f.inside.bytes.now in
    of_fields f c.args.f.now c.args.start (Some c.in_ok-length.length) c.f.view_is c.f.invariant
    (url_ends f c.args.start c.in_ok-length.length c.in_ok-length.ensures (omega (arith, c.if-length-gt-MOST_URL.false)))
