-- `ask`: the check of the table, then the ticket. Assumes nothing.
use mathlib.Core.Path.{sym}
use Rattle.std.proofs.lemmas.Result.{err_from_is_err_and}
use Rattle.rdfs.specs.Numbers.{product}
use Rattle.rdfs.proofs.Tickets.Steps.{checked_table}
use Rattle.table.specs.Refused.{number}
use Rattle.ticket.proofs.RefusedSteps.{table_refused}
use Rattle.ticket.proofs.CallAnswers.{refused_some}
use Rattle.preview.proofs.AskWays.{way_table}
use Rattle.preview.proofs.ask.Goals as goal

pub returns-in_err-check : goal.returns-in_err-check
returns-in_err-check c =
    let p = err_from_is_err_and c.from_residual.result c.from_residual.ensures.1 in
    let refusal = c.in_err-check.field-0.0 in
    rw (p.1, p.2) (record {
      answer = way_table c.args.table.now c.args.ticket.now c.args.added.now c.args.removed.now refusal
          (table_refused c.args.table.now c.args.ticket.now (number refusal) (sym c.in_err-check.ensures.answer)
          (refused_some refusal));
    })

pub ask_checked-requires : goal.ask_checked-requires
ask_checked-requires c = record { table = checked_table product c.args.table.now (sym c.in_ok-check.ensures.answer) }
