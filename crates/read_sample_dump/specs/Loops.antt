-- The loop number that two groups are.
use Rattle.std.specs.Prelude.{ℕ, eqb}
use Rattle.util.specs.Limits.{all_loops}
use Rattle.util.specs.Pick.{pick}
use Rattle.messages.specs.declared.sample_dump.LoopNumber.{LoopNumber}
use Rattle.messages.specs.declared.sample_dump.LoopNumber.TheVariants.{Loop}

-- settled: "loop number 16,383 is "all" (request all in 05 02 and 05 07, delete all in 05 01 and 05 06)"
abbrev pub loop_number_of : LoopNumber → ℕ → LoopNumber
loop_number_of all v = pick (eqb v all_loops) all (Loop v)
