use Rattle.std.proofs.Common.{rules, arith, ◌≤◌, ◌∙◌}
use Rattle.rdfs.specs.Numbers.{product}
use Rattle.rdfs.specs.Operators.{step_as}
use Rattle.list_form.proofs.Runs.{steps_keep}
use Rattle.list_form.proofs.ByteWalk.{one_run, byte_start, byte_accepted, byte_table, byte_place, byte_more, register_done}
use Rattle.list.proofs.run_checked.Goals as goal

pub loop-place-init : goal.loop-place-init
loop-place-init c = record {
  five = search rules;
  walk = byte_start (step_as c.args.operator product) c.args.table.now c.args.answers.now c.args.bytes.now _
      (search rules) (search rules) c.requires.room;
}

pub apply_as-outcome-requires : goal.apply_as-outcome-requires
apply_as-outcome-requires c =
    record { table = byte_table c.loop-place.invariant.walk (steps_keep c.args.operator) c.requires.table }

pub put_answer-accepted-requires-clause-place : goal.put_answer-accepted-requires-clause-place
put_answer-accepted-requires-clause-place c =
    let step = c.in-Some.ensures.steps in
    byte_place c.loop-place.invariant.walk _ _ c.loop-place.invariant.five step.0.1 step.1

pub put_answer-accepted-requires-clause-bound : goal.put_answer-accepted-requires-clause-bound
put_answer-accepted-requires-clause-bound c =
    let before : c.loop-place.accepted ≤ _ = byte_accepted c.loop-place.invariant.walk in
    omega (arith, before, c.in-Some.ensures.steps.1)

pub loop-place-preserved : goal.loop-place-preserved
loop-place-preserved c =
    let step = c.in-Some.ensures.steps in
    let ran = c.apply_as-outcome.ensures.answer in
    let put = c.put_answer-accepted.ensures in
    let five = c.loop-place.invariant.five in record {
      five = step.0.0 ∙ five;
      walk = byte_more c.loop-place.invariant.walk _ _ five step.0.1 step.1 step.2 (one_run (c.answer_of.ensures.answer ∙ ran.number) ran.words put.answer put.bytes);
    }

pub returns : goal.returns
returns c =
    record { answer = register_done c.args.operator c.loop-place.invariant.walk c.in-None.ensures.steps.0.1.0 }
