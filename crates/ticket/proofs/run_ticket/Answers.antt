-- `run_ticket`: the refusals that need no table, then the insertion or the deletion. Assumes nothing.
use mathlib.Core.Path.{refl, sym}
use Rattle.std.proofs.lemmas.Result.{err_from_is_err_and}
use Rattle.table.specs.Refused.{number}
use Rattle.ticket_form.specs.TicketForm.{bytes_of}
use Rattle.ticket_form.proofs.Numbered.{number_some}
use Rattle.ticket.proofs.RefusedSteps.{form_refused}
use Rattle.ticket.proofs.AcceptedSteps.{count_fits}
use Rattle.ticket.proofs.CallAnswers.{wide_ready, deletes_else, answered_refused}
use Rattle.ticket.proofs.KeptWords.{answered_as}
use Rattle.ticket.proofs.run_ticket.Goals as goal

pub returns-in_err-check_form : goal.returns-in_err-check_form
returns-in_err-check_form c =
    let p = err_from_is_err_and c.from_residual.result c.from_residual.ensures.1 in
    let refusal = c.in_err-check_form.field-0.0 in
    rw (p.1, p.2) (record {
      answer = answered_as c.args.keep (answered_refused refusal (form_refused c.args.table.now (bytes_of c.args.ticket)
          c.requires.table (number refusal) refl (sym c.in_err-check_form.ensures.answer) (number_some refusal)));
    })

pub run_deletion-after-requires : goal.run_deletion-after-requires
run_deletion-after-requires c =
    let formed = c.in_ok-check_form.ensures.answer in record {
      ticket = wide_ready c.args.ticket (deletes_else c.args.ticket formed refl c.if-ticket-eq-INSERT.false)
          c.wide-k.ensures.answer c.wide-a.ensures.answer c.wide-b.ensures.answer c.wide-c.ensures.answer c.requires.table
          c.count_facts-count.ensures.answer formed refl;
    }

pub counts_of-requires-clause-before : goal.counts_of-requires-clause-before
counts_of-requires-clause-before c = count_fits c.args.table.now (bytes_of c.args.ticket) c.requires.table c.count_facts-count.result
    c.count_facts-count.ensures.answer
