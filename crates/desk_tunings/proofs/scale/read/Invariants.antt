-- `desk_tunings::scale::read` meets its contract. The invariant: there are no more values than room for them, which keeps its size; a word stands first, and the words that are left give what all words give.
-- Assumes nothing.
use mathlib.Core.Path.{◌≡◌}
use mathlib.Core.Bool.{true, false}
use Prim.Native.Nat.{◌≤◌, ◌<◌}
use lib.ListN.{length, get_or}
use Rattle.desk_text.specs.Spans.{is_blank}
use Rattle.desk_text.specs.Lines.{begins_comment}
use Rattle.desk_tunings.specs.Scale.{words_of, read_words, read_values}
use Rattle.desk_tunings.proofs.scale.read.Given as goal

abbrev pub invariant-loop-rest : goal.invariant-loop-rest
invariant-loop-rest l =
    (l.n ≤ length l.initial.values) × (length l.values ≡ length l.initial.values) × (0 < length l.rest → (is_blank (get_or l.rest 0 0) ≡ false) × (begins_comment true (get_or l.rest 0 0) ≡ false)) × (read_words (words_of l.rest) l.n l.values ≡ read_values l.s l.initial.values)

abbrev pub decreases-loop-rest : goal.decreases-loop-rest
decreases-loop-rest l = length l.rest
