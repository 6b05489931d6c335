-- `pasoreum::pasoreum_identity` meets its contract: the answer of identity reading, and its numbers.
-- Assumes nothing.
use mathlib.Core.Path.{sym, ◌∙◌}
use borrow.Author.Tests.{lt-ltb}
use Rattle.pasoreum.proofs.Laws.{replied, unreplied}
use Rattle.pasoreum.proofs.pasoreum_identity.Goals as goal

pub returns-then-answer-lt9 : goal.returns-then-answer-lt9
returns-then-answer-lt9 c = let t = lt-ltb _ _ c.if-answer-lt9.true in
    record { number = rw t; output = rw t }

pub returns-in-Ok : goal.returns-in-Ok
returns-in-Ok c =
    let e = sym c.in-Ok.is ∙ c.from_midi.ensures in
    let t = replied c.args.bytes.now c.args.answer.now _ _ _ c.if-answer-lt9.false e c.put_reply.ensures in
    record { number = t.0; output = t.1 }

pub returns-in-Err : goal.returns-in-Err
returns-in-Err c =
    let e = sym c.in-Err.is ∙ c.from_midi.ensures in
    let t = unreplied c.args.bytes.now c.args.answer.now _ _ c.if-answer-lt9.false e (c.from.ensures ∙ c.number.ensures) in
    record { number = t.0; output = t.1 }
