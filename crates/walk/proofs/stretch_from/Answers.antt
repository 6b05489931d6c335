-- `walk::stretch_from` meets its contract: what is reached lies in the stream, or the stream has ended. Assumes nothing.
use Rattle.std.proofs.Common.{◌∙◌}
use Rattle.messages.specs.Walk.{is_frame}
use Rattle.messages.proofs.Walk.{frame_encloses}
use Rattle.walk.proofs.Laws.Frames.{stretches_end}
use Rattle.walk.proofs.stretch_from.Goals as goal

pub returns-then-start-stream : goal.returns-then-start-stream
returns-then-start-stream c = record { reached = c.read_outside-p.ensures; closed = c.read_outside-p.ensures.closed c.if-start-stream.true }

pub returns-else-start-stream : goal.returns-else-start-stream
returns-else-start-stream c = λ k. c.read_outside-p.ensures.same k ∙ stretches_end (is_frame k) (frame_encloses k) c.args.stream.now _ _ c.if-start-stream.false
