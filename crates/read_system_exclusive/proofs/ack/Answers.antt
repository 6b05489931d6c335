-- `read_system_exclusive::ack` meets its contract: one byte is the number, all else nothing.
-- Assumes nothing.
use mathlib.Core.Path.{refl}
use Rattle.messages.specs.declared.system_exclusive.UniversalNonRealTimeMsg.TheVariants as msg
use Rattle.messages.specs.declared.head.Head.TheVariants as head
use Rattle.read_places.proofs.Laws.Answers.{reads_test}
use lib.ListN.{length}
use Rattle.read_places.specs.Places.{value_at}
use Rattle.read_system_exclusive.proofs.Laws.{number_reads, number_not}
use Rattle.read_system_exclusive.proofs.ack.Goals as goal

pub returns : goal.returns
returns c =
    let f = c.args.f.now in
    rw (c.then_some.ensures, c.numbers.ensures, c.u7_at.ensures, c.len.ensures.size)
    (reads_test head.ACK f (msg.ACK (value_at 1 f 0)) (value_at 1 f 0) (λ d. refl) refl refl (length f) 1 (number_reads f c.len.ensures.seven) (number_not f))
