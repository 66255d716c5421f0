use native.Mathlib.Omega.{arith}
use Rattle.rdfs.specs.Rules.{Meets}
use Rattle.spans.specs.Graphs.{graph_of}
use Rattle.consistency.specs.Order.{rules_in_order, rule_at}
use Rattle.spans.proofs.Decided.{decided_met}
use Rattle.consistency.proofs.Visiting.{visit_more, visit_earlier}
use mathlib.Core.Path.{ap}
use mathlib.Core.Bool.{not}
use Rattle.consistency.proofs.visit.visit.Goals as goal

pub meets-requires : goal.meets-requires
meets-requires c =
    record {
      earlier = rw c.rule_at.ensures.answer (visit_earlier (graph_of c.args.spans.now.table.now) c.loop-at.at
          (omega (arith, c.loop-at-test.true)) c.loop-at.invariant);
    }

pub loop-at-preserved : goal.loop-at-preserved
loop-at-preserved c =
    let G = graph_of c.args.spans.now.table.now in
    let answer = rw c.rule_at.ensures.answer at c.meets.ensures.answer in
    visit_more G rules_in_order c.loop-at.at c.loop-at.invariant
    (decided_met c.meets.result (Meets G (rule_at rules_in_order c.loop-at.at)) answer (ap not c.if-not-meets.false))
