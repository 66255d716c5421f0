-- `links::link_values` meets its contract. The loop's invariant: the values before `at` are linked, and those left stand from
-- `at` up to `end`. Assumes nothing.
use Rattle.holders.proofs.Linking.{Linking}
use Rattle.holders.proofs.links.link_values.Given as goal

abbrev pub invariant-loop-at : goal.invariant-loop-at
invariant-loop-at l = Linking l.table l.links l.end l.at
