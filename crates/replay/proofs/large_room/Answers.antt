-- `replay::large_room` meets its contract, by the length of a list of equal numbers.
use Rattle.std.proofs.Common.{ℕ, sym}
use Rattle.std.proofs.lemmas.List.{length-replicate}
use Rattle.replay.proofs.large_room.Goals as goal

pub returns : goal.returns
returns c = sym (length-replicate {0} {A = ℕ} 524288 0)
