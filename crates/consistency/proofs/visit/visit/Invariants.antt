-- `visit::visit` meets its contract. The loop's invariant: each rule before `at` is met. Assumes nothing.
use Rattle.spans.specs.Graphs.{graph_of}
use Rattle.consistency.specs.Order.{rules_in_order}
use Rattle.consistency.proofs.Visiting.{MetBefore}
use Rattle.consistency.proofs.visit.visit.Given as goal

abbrev pub invariant-loop-at : goal.invariant-loop-at
invariant-loop-at l = MetBefore (graph_of l.spans.table.now) rules_in_order l.at
