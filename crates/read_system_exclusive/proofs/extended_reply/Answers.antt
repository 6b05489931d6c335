-- `read_system_exclusive::extended_reply` meets its contract: a first byte 00 is taken, another is not.
-- Assumes nothing.
use mathlib.Core.Path.{refl}
use native.Mathlib.Omega.{arith}
use lib.ListN.{get_or}
use Rattle.messages.specs.declared.system_exclusive.UniversalNonRealTimeMsg.TheVariants as msg
use Rattle.messages.specs.declared.system_exclusive.ManufacturerID.TheVariants.{Extended}
use Rattle.messages.specs.declared.head.Head.TheVariants as head
use Rattle.read_places.proofs.Laws.Answers.{reads_test}
use Rattle.read_places.specs.Places.{value_at}
use Rattle.messages.specs.Structures.{reply}
use Rattle.read_system_exclusive.specs.Replies.{after_maker_at}
use Rattle.read_system_exclusive.proofs.Laws.{extended_reads, one_byte_size, extended_maker_not, reply_not}
use Rattle.read_system_exclusive.proofs.extended_reply.Goals as goal

pub returns : goal.returns
returns c =
    let f = c.args.f.now in
    let s = rw c.f.view_is at c.f.invariant in
    let x = reply (Extended (value_at 1 f 1) (value_at 1 f 2)) (after_maker_at f 3) in
    rw (c.then_some.ensures, c.reply_of.ensures, c.u7_at-2.ensures, c.u7_at.ensures, c.f.view_is)
    (reads_test head.IdentityReply f (msg.IdentityReply x) x (λ d. refl) refl refl (get_or f 0 0) 0 (extended_reads f s c.requires) (λ k. reply_not f (one_byte_size f (λ e. omega (arith, c.requires))) (extended_maker_not f k)))
