-- `numbers_to_message::tuning::answer` meets its contract: each head code has its row.
-- Assumes nothing.
use Rattle.numbers_to_message.proofs.tuning.answer.Goals as goal

pub returns-in-2053 : goal.returns-in-2053
returns-in-2053 c = rw (c.in-2053.is) c.scale_dump_1.ensures

pub returns-in-2054 : goal.returns-in-2054
returns-in-2054 c = rw (c.in-2054.is) c.scale_dump_2.ensures

pub returns-in-2056 : goal.returns-in-2056
returns-in-2056 c = rw (c.in-2056.is) c.scale_tuning_1.ensures

pub returns-in-2057 : goal.returns-in-2057
returns-in-2057 c = rw (c.in-2057.is) c.scale_tuning_2.ensures
