-- `check_list`: the check's refusal if there is one, else 14 by the counts. Assumes nothing.
use mathlib.Core.Path.{sym, ap, ◌∙◌}
use borrow.Author.Tests.{lt-ltb, le-ltb}
use Rattle.std.proofs.lemmas.Result.{err_from_is_err_and}
use Rattle.rdfs.specs.Numbers.{product}
use Rattle.rdfs.specs.Refusals.{or_else}
use Rattle.rdfs.proofs.Tickets.Steps.{checked_table, table_passes, table_stops}
use Rattle.ticket_form.proofs.Numbered.{number_some}
use Rattle.list_form.proofs.answers.check_list.Goals as goal

pub returns-in_err-check : goal.returns-in_err-check
returns-in_err-check c =
    let p = err_from_is_err_and c.from_residual.result c.from_residual.ensures.1 in
    let refusal = c.in_err-check.field-0.0 in
    let stopped = c.in_err-check.ensures.answer in
    rw (p.1, p.2) (record {
      answer = stopped ∙ table_stops product c.args.table.now _ (λ e. number_some refusal (stopped ∙ e));
    })

pub returns-then-room-tickets : goal.returns-then-room-tickets
returns-then-room-tickets c =
    let table = checked_table product c.args.table.now (sym c.in_ok-check.ensures.answer) in
    record { answer = sym (table_passes product _ table _ ∙ ap (λ b. or_else b 14 0) (lt-ltb _ _ c.if-room-tickets.true)) }

pub returns : goal.returns
returns c =
    let table = checked_table product c.args.table.now (sym c.in_ok-check.ensures.answer) in
    record { answer = sym (table_passes product _ table _ ∙ ap (λ b. or_else b 14 0) (le-ltb _ _ c.if-room-tickets.false)) }
