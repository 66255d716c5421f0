use Rattle.std.proofs.Common.{refl, arith, length-drop}
use Rattle.ticket_form.specs.declared.fields.Ticket.{Ticket}
use Rattle.records.proofs.RecordWalk.{
  next_first,
  record_start,
  record_accepted,
  record_table,
  record_place,
  record_more,
  record_done,
}
use Rattle.records.proofs.run_records.Goals as goal

pub loop-place-init : goal.loop-place-init
loop-place-init c =
    record_start c.args.table.now c.args.answers.now c.args.tickets.now c.args.tickets.now refl refl c.requires.room

pub run_ticket-accepted-requires-clause-table : goal.run_ticket-accepted-requires-clause-table
run_ticket-accepted-requires-clause-table c = record_table c.loop-place.invariant c.requires.table

pub run_ticket-accepted-requires-clause-place : goal.run_ticket-accepted-requires-clause-place
run_ticket-accepted-requires-clause-place c =
    let blank : Ticket = record { operation = 0; kind = 0; a = 0; b = 0; c = 0 } in
    let first = next_first c.args.tickets.now c.loop-place.place blank c.loop-place-test.true in
    (record_place c.loop-place.invariant _ _ first refl, record_accepted c.loop-place.invariant)

pub loop-place-preserved : goal.loop-place-preserved
loop-place-preserved c =
    record_more c.loop-place.invariant _ _ (next_first c.args.tickets.now c.loop-place.place _ c.loop-place-test.true) refl refl
    c.run_ticket-accepted.ensures.answer

pub returns : goal.returns
returns c =
    let past = c.loop-place-test.false in
    record { answer = record_done c.loop-place.invariant (omega (arith, past, length-drop c.loop-place.place c.args.tickets.now)) }
