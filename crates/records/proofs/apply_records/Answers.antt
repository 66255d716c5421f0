-- `apply_records`: the refusal, the loop and the counts, put together. Assumes nothing.
use Rattle.std.proofs.Common.{false, arith}
use Rattle.std.proofs.lemmas.Result.{err_from_is_err_and}
use Rattle.list_form.specs.Listing.{record_bytes}
use Rattle.list_form.proofs.ListCall.{list_table, list_room, list_refused, list_within, list_run}
use Rattle.records.proofs.RecordsCall.{records_judged, records_ran}
use Rattle.records.proofs.apply_records.Goals as goal

pub returns-in_err-check_list : goal.returns-in_err-check_list
returns-in_err-check_list c =
    let p = err_from_is_err_and c.from_residual.result c.from_residual.ensures.1 in
    let tickets = c.args.tickets.now in
    let judged = records_judged tickets c.args.answers.now {w = c.args.table.now} c.in_err-check_list.ensures.answer in
    rw (p.1, p.2) (record { answer = list_refused false (record_bytes tickets) c.in_err-check_list.field-0.0 judged })

pub run_records-accepted-requires : goal.run_records-accepted-requires
run_records-accepted-requires c =
    let judged = records_judged c.args.tickets.now c.args.answers.now {w = c.args.table.now} c.in_ok-check_list.ensures.answer in
    record {
      table = list_table judged;
      room = omega (arith, judged.tickets, list_room judged);
    }

pub sum_up-requires : goal.sum_up-requires
sum_up-requires c =
    let tickets = c.args.tickets.now in
    let judged = records_judged tickets c.args.answers.now {w = c.args.table.now} c.in_ok-check_list.ensures.answer in
    let ran = records_ran c.args.table.now tickets c.run_records-accepted.ensures.answer in
    record { bound = list_within false (record_bytes tickets) judged ran }

pub returns : goal.returns
returns c =
    let tickets = c.args.tickets.now in
    let judged = records_judged tickets c.args.answers.now {w = c.args.table.now} c.in_ok-check_list.ensures.answer in
    let ran = records_ran c.args.table.now tickets c.run_records-accepted.ensures.answer in
    record { answer = list_run false (record_bytes tickets) judged ran c.sum_up.ensures.answer }
