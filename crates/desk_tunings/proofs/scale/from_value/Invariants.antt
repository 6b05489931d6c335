-- `desk_tunings::scale::from_value` meets its contract. The invariant: the words are the same, and no blank stands first.
-- Assumes nothing.
use mathlib.Core.Path.{◌≡◌}
use mathlib.Core.Bool.{false}
use Prim.Native.Nat.{◌≤◌, ◌<◌}
use lib.ListN.{length, get_or}
use Rattle.desk_text.specs.Spans.{is_blank}
use Rattle.desk_tunings.specs.Scale.{words_of}
use Rattle.desk_tunings.proofs.scale.from_value.Given as goal

abbrev pub invariant-loop-rest : goal.invariant-loop-rest
invariant-loop-rest l =
    (length l.rest ≤ length l.s) × (words_of l.rest ≡ words_of l.s) × (0 < length l.rest → is_blank (get_or l.rest 0 0) ≡ false)

abbrev pub decreases-loop-rest : goal.decreases-loop-rest
decreases-loop-rest l = length l.rest
