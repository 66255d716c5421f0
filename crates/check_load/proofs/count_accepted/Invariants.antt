-- `count_accepted`: no more checks accept than are done. Assumes nothing.
use Rattle.std.proofs.Common.{◌≤◌}
use Rattle.check_load.proofs.count_accepted.Given as goal

abbrev pub invariant-loop : goal.invariant-loop
invariant-loop l = l.accepted ≤ l.counter
