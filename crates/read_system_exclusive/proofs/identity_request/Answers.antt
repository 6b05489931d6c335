-- `read_system_exclusive::identity_request` meets its contract: no bytes are the message, all else nothing.
-- Assumes nothing.
use mathlib.Core.Path.{refl}
use Rattle.messages.specs.declared.system_exclusive.UniversalNonRealTimeMsg.TheVariants as msg
use Rattle.messages.specs.declared.head.Head.TheVariants as head
use Rattle.read_places.proofs.Laws.Answers.{reads_test}
use lib.ListN.{length}
use Rattle.read_system_exclusive.proofs.Laws.{nothing_reads, nothing_not}
use Rattle.read_system_exclusive.proofs.identity_request.Goals as goal

pub returns : goal.returns
returns c =
    let f = c.args.f.now in
    rw (c.then_some.ensures, c.numbers.ensures, c.len.ensures.size)
    (reads_test head.IdentityRequest f msg.IdentityRequest tt (λ d. refl) refl refl (length f) 0 (nothing_reads f) (nothing_not f))
