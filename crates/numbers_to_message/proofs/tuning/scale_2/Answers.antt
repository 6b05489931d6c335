-- `numbers_to_message::tuning::scale_2` meets its contract: the closure answers the value at each place.
-- Assumes nothing.
use mathlib.Core.Path.{◌≡◌, refl}
use Prim.Native.Nat.{ℕ, ◌+◌}
use lib.IntN.{pos}
use lib.ListN.{get_or}
use borrow.Author.Rules.{rules}
use Rattle.numbers_to_message.specs.Fits.{taken}
use Rattle.numbers_to_message.specs.declared.fit.NumberType.TheVariants.{I16}
use Rattle.numbers_to_message.proofs.Made.{from_fn_is}
use Rattle.numbers_to_message.proofs.tuning.scale_2.Goals as goal

pub returns : goal.returns
returns c =
    from_fn_is _ (λ (k : ℕ). taken I16 (get_or c.args.v.now (c.args.i + k) 0)) (λ p. (p.0.now ≡ c.args.v.now) × (p.1.now ≡ c.args.i)) (λ p q k y s t. search rules) _ c.from_fn.result (pos 0) 12 (refl, refl) c.from_fn.ensures.items
