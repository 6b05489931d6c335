-- `read_system_exclusive::one_byte_reply` meets its contract: a maker from 01 to 7C is taken, another is not.
-- Assumes nothing.
use mathlib.Core.Path.{refl}
use lib.ListN.{get_or}
use Rattle.messages.specs.declared.system_exclusive.UniversalNonRealTimeMsg.TheVariants as msg
use Rattle.messages.specs.declared.system_exclusive.ManufacturerID.TheVariants.{OneByte}
use Rattle.messages.specs.declared.head.Head.TheVariants as head
use Rattle.read_places.proofs.Laws.Answers.{reads_numbers}
use Rattle.messages.specs.Structures.{reply}
use Rattle.read_system_exclusive.specs.Replies.{after_maker_at}
use Rattle.read_system_exclusive.proofs.Laws.{one_byte_reads}
use Rattle.read_system_exclusive.proofs.one_byte_reply.Goals as goal

pub returns : goal.returns
returns c =
    let f = c.args.f.now in
    let s = rw c.f.view_is at c.f.invariant in
    let low = rw c.f.view_is at c.if-maker-lt1.false in
    let high = rw c.f.view_is at c.if-maker-gt-MOST_MAKER.false in
    let x = reply (OneByte (get_or f 0 0)) (after_maker_at f 1) in
    rw (c.reply_of.ensures, c.f.view_is)
    (reads_numbers head.IdentityReply f (msg.IdentityReply x) x (λ d. refl) refl refl (one_byte_reads f s c.requires low high))
