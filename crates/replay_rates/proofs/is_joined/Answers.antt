-- `replay_rates::is_joined` is safe: a rate that is below a number is no NaN.
-- Assumes nothing.
use Rattle.replay_rates.proofs.Numbers.{less_number}
use Rattle.replay_rates.proofs.is_joined.Goals as goal

pub float_to_bits-result : goal.float_to_bits-result
float_to_bits-result c = less_number c.join_rate-rate.result _ c.if-rate.true
