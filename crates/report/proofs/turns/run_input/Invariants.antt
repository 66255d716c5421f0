-- `run_input`: the invariant is that full turns have led to the words there are, and that what is lent stays. Assumes nothing.
use Rattle.report.proofs.Going.{Going}
use Rattle.report.proofs.turns.run_input.Given as goal

abbrev pub invariant-loop : goal.invariant-loop
invariant-loop g l = Going l.initial.table l.initial.bytes l.initial.out l.table l.bytes l.out
