-- `apply`: the check of the table, then the ticket. Assumes nothing.
use mathlib.Core.Path.{sym}
use Rattle.std.proofs.lemmas.Result.{err_from_is_err_and}
use Rattle.rdfs.specs.Numbers.{product}
use Rattle.rdfs.proofs.Tickets.Steps.{checked_table}
use Rattle.table.specs.Refused.{number}
use Rattle.ticket_form.proofs.Numbered.{number_some}
use Rattle.ticket.proofs.RefusedSteps.{table_refused}
use Rattle.ticket.proofs.CallAnswers.{answered_refused}
use Rattle.ticket.proofs.apply.Goals as goal

pub returns-in_err-check : goal.returns-in_err-check
returns-in_err-check c =
    let p = err_from_is_err_and c.from_residual.result c.from_residual.ensures.1 in
    let refusal = c.in_err-check.field-0.0 in
    rw (p.1, p.2) (record {
      answer = answered_refused refusal (table_refused c.args.table.now c.args.ticket.now (number refusal)
          (sym c.in_err-check.ensures.answer) (number_some refusal));
    })

pub apply_checked-requires : goal.apply_checked-requires
apply_checked-requires c = record { table = checked_table product c.args.table.now (sym c.in_ok-check.ensures.answer) }
