use Rattle.std.proofs.Common.{rules, ◌∙◌}
use Rattle.rdfs.specs.Numbers.{product}
use Rattle.rdfs.specs.Operators.{step_as}
use Rattle.list_form.proofs.Runs.{steps_keep}
use Rattle.list.proofs.Unanswered.{unanswered_start, unanswered_table, unanswered_more, unanswered_done}
use Rattle.list.proofs.run_unanswered.Goals as goal

pub loop-ticket-init : goal.loop-ticket-init
loop-ticket-init c = record {
  five = search rules;
  walk = unanswered_start (step_as c.args.operator product) c.args.table.now c.args.bytes.now _ (search rules);
}

pub apply_as-outcome-requires : goal.apply_as-outcome-requires
apply_as-outcome-requires c =
    record { table = unanswered_table c.loop-ticket.invariant.walk (steps_keep c.args.operator) c.requires.table }

pub loop-ticket-preserved : goal.loop-ticket-preserved
loop-ticket-preserved c =
    let step = c.in-Some.ensures.steps in
    let five = c.loop-ticket.invariant.five in record {
      five = step.0 ∙ five;
      walk = unanswered_more c.loop-ticket.invariant.walk _ _ five step.1 c.apply_as-outcome.ensures.answer.words;
    }

pub returns : goal.returns
returns c =
    record { words = unanswered_done c.args.operator c.loop-ticket.invariant.walk c.in-None.ensures.steps.1.0 }
