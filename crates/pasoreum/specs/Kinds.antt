-- Kinds of sound file as numbers. The boundary's own refusals: 64 NO MESSAGE, 65 NO KIND, 66 NO ROOM, which answer 0 besides.
use Rattle.std.specs.Prelude.{ℕ, eqb, Option, Some, None}
use Rattle.util.specs.Pick.{pick}
use Rattle.messages.specs.declared.file_reference.Kind.{Kind}
use Rattle.messages.specs.declared.file_reference.Kind.TheVariants.{Bank, WAV}

-- "kind (0 bank, 1 WAV)"
unfoldable pub kind_of : ℕ → Option Kind
kind_of n = pick (eqb n 0) (Some Bank) (pick (eqb n 1) (Some WAV) None)
