-- `writer::write` meets its contract: a handshake message has its frame of six bytes, another is written as it is.
-- Assumes nothing.
use mathlib.Core.Path.{sym, ◌∙◌}
use borrow.Author.Rules.{rules}
use Rattle.writer.proofs.Laws.Answers.{bytes_all}
use Rattle.writer.proofs.Laws.Handshakes.{handshake_written}
use Rattle.writer.proofs.write.Goals as goal

pub returns-in-Some : goal.returns-in-Some
returns-in-Some c =
    rw (handshake_written c.args.device c.args.m c.args.text.now c.args.entries.now c.in-Some.a c.in-Some.n
    (sym c.handshake_of.ensures ∙ c.in-Some.is)
    (bytes_all c.args.text.now (λ i. search rules)))
    c.write_handshake.ensures
