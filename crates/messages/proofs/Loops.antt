-- The codes of loop types: each is one byte.
-- Assumes nothing.
use mathlib.Core.Path.{◌≡◌, refl}
use mathlib.Core.List.{[], ◌∷◌}
use Rattle.messages.specs.declared.sample_dump.LoopType.{LoopType}
use Rattle.messages.specs.declared.sample_dump.LoopType.TheVariants as loop
use Rattle.messages.specs.declared.sample_dump.ExtendedLoopType.{ExtendedLoopType}
use Rattle.messages.specs.declared.sample_dump.ExtendedLoopType.TheVariants as ext
use Rattle.messages.specs.Structures.{loop_code, loop_byte, extended_loop_code, extended_loop_byte}

pub one_byte : (t : LoopType) → loop_code t ≡ loop_byte t ∷ []
one_byte loop.Forward = refl
one_byte loop.BiDirectional = refl
one_byte loop.Off = refl

pub extended_one_byte : (t : ExtendedLoopType) → extended_loop_code t ≡ extended_loop_byte t ∷ []
extended_one_byte ext.Forward = refl
extended_one_byte ext.BiDirectional = refl
extended_one_byte ext.ForwardRelease = refl
extended_one_byte ext.BiDirectionalRelease = refl
extended_one_byte ext.Backward = refl
extended_one_byte ext.BackwardBiDirectional = refl
extended_one_byte ext.BackwardRelease = refl
extended_one_byte ext.BackwardBiDirectionalRelease = refl
extended_one_byte ext.BackwardOneShot = refl
extended_one_byte ext.OneShot = refl
