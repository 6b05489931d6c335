-- `pasoreum::identity::put_reply` meets its contract: the numbers behind head code and device.
-- Assumes nothing.
use mathlib.Core.Path.{sym}
use mathlib.Core.List.{List}
use Prim.Native.Nat.{ℕ}
use Rattle.numbers_of_message.proofs.Laws.{put_of}
use Rattle.pasoreum.proofs.Laws.{nine}
use Rattle.pasoreum.proofs.identity.put_reply.Goals as goal

pub returns : goal.returns
returns c = put_of (λ (l : List ℕ). l) (sym (nine c.args.r.id c.args.r _ c.put_reply.ensures.there)) c.put.ensures
