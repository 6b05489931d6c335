-- `read_system_exclusive::wait` meets its contract: the one byte 00 is the message, all else nothing.
-- Assumes nothing.
use mathlib.Core.Path.{refl}
use Rattle.messages.specs.declared.system_exclusive.UniversalNonRealTimeMsg.TheVariants as msg
use Rattle.messages.specs.declared.head.Head.TheVariants as head
use Rattle.read_places.proofs.Laws.Answers.{reads_if}
use Rattle.read_system_exclusive.specs.Replies.{one_zero}
use Rattle.read_system_exclusive.proofs.Laws.{zero_reads, zero_not}
use Rattle.read_system_exclusive.proofs.wait.Goals as goal

pub returns : goal.returns
returns c =
    let f = c.args.f.now in
    rw (c.then_some.ensures, c.numbers.ensures, c.is_zero.ensures)
    (reads_if head.Wait f msg.Wait tt (λ d. refl) refl refl (one_zero f) (zero_reads f) (zero_not f))
