-- `search::count_before`. The loop's invariant: the number is from low to low + size. The measure is size. Assumes nothing.
use Rattle.table.proofs.Halving.{Halved}
use Rattle.table.proofs.search.count_before.Given as goal

abbrev pub invariant-loop-size : goal.invariant-loop-size
invariant-loop-size g l = Halved (goal.F-post g l.test) l.words l.low l.size

abbrev pub decreases-loop-size : goal.decreases-loop-size
decreases-loop-size g l = l.size
