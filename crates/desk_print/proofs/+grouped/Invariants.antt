-- `desk_print::grouped`: the measure is the number.
use Rattle.desk_print.proofs.+grouped.Given as goal

abbrev pub decreases-grouped : goal.decreases-grouped
decreases-grouped l = l.n
