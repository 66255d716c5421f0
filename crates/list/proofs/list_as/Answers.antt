-- `list_as`: the count of tickets, the refusal, the loop and the counts, put together. Assumes nothing.
use Rattle.std.proofs.lemmas.Result.{err_from_is_err_and}
use Rattle.list_form.proofs.ListCall.{bytes_judged, list_table, list_room, list_refused, list_within, list_run}
use Rattle.list.proofs.list_as.Goals as goal

pub returns-in_err-check_list : goal.returns-in_err-check_list
returns-in_err-check_list c =
    let p = err_from_is_err_and c.from_residual.result c.from_residual.ensures.1 in
    let judged = bytes_judged c.args.bytes.now c.args.answers.now c.count_tickets-tickets.ensures.answer
    c.in_err-check_list.ensures.answer in
    rw (p.1, p.2) (record { answer = list_refused c.args.operator c.args.bytes.now c.in_err-check_list.field-0.0 judged })

pub run_checked-accepted-requires : goal.run_checked-accepted-requires
run_checked-accepted-requires c =
    let judged = bytes_judged c.args.bytes.now c.args.answers.now c.count_tickets-tickets.ensures.answer
    c.in_ok-check_list.ensures.answer in record {
      table = list_table judged;
      room = list_room judged;
    }

pub sum_up-requires : goal.sum_up-requires
sum_up-requires c =
    let judged = bytes_judged c.args.bytes.now c.args.answers.now c.count_tickets-tickets.ensures.answer
    c.in_ok-check_list.ensures.answer in
    record { bound = list_within c.args.operator c.args.bytes.now judged c.run_checked-accepted.ensures.answer }

pub returns : goal.returns
returns c =
    let judged = bytes_judged c.args.bytes.now c.args.answers.now c.count_tickets-tickets.ensures.answer
    c.in_ok-check_list.ensures.answer in record {
      answer = list_run c.args.operator c.args.bytes.now judged c.run_checked-accepted.ensures.answer c.sum_up.ensures.answer;
    }
