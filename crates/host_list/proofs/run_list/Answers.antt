-- `run_list`: refused by reading or with 14; else the list is run, and its image, which has room, is written. Assumes nothing.
use native.Mathlib.Omega.{arith}
use mathlib.Core.Path.{refl}
use lib.ListN.{length}
use Rattle.std.proofs.lemmas.Result.{err_from_is_err_and}
use Rattle.host_list.proofs.HostListWays.{
  not_none,
  list_refused,
  begun,
  begun_stops,
  begun_room,
  begun_table,
  left_table,
  counts_fit,
  never_short,
  list_done,
}
use Rattle.host_list.proofs.run_list.Goals as goal

pub returns-in_err-read_for : goal.returns-in_err-read_for
returns-in_err-read_for c =
    let p = err_from_is_err_and c.from_residual.result c.from_residual.ensures.1 in
    let read = c.in_err-read_for in
    let refusal = read.field-0.0 in
    let b = begun c.args.image.now c.args.tickets.now (length c.args.answers.now) c.count_tickets-count.ensures.answer
    (read.ensures.answer, read.ensures.words) in
    rw (p.1, p.2) (record {
      promise = list_refused c.args.operator c.args.image.now c.args.tickets.now c.args.answers.now c.args.output.now refusal
          (begun_stops c.args.operator b (not_none refusal) (length c.args.output.now));
    })

pub run_checked-accepted-requires : goal.run_checked-accepted-requires
run_checked-accepted-requires c =
    let read = c.in_ok-read_for.ensures in
    let b = begun c.args.image.now c.args.tickets.now (length c.args.answers.now) c.count_tickets-count.ensures.answer
    (read.answer, read.words) in record {
      table = begun_table b refl;
      room = omega (arith, begun_room b refl);
    }

pub overflow_sub-refused : goal.overflow_sub-refused
overflow_sub-refused c =
    let read = c.in_ok-read_for.ensures in
    let b = begun c.args.image.now c.args.tickets.now (length c.args.answers.now) c.count_tickets-count.ensures.answer
    (read.answer, read.words) in
    (counts_fit c.args.operator c.args.answers.now c.args.output.now b refl c.run_checked-accepted.ensures.answer).0

pub write_checked-requires : goal.write_checked-requires
write_checked-requires c =
    let read = c.in_ok-read_for.ensures in
    let b = begun c.args.image.now c.args.tickets.now (length c.args.answers.now) c.count_tickets-count.ensures.answer
    (read.answer, read.words) in
    record { table = left_table c.args.operator b refl c.run_checked-accepted.ensures.answer.words }

-- The output has room.
pub returns-in_err-length : goal.returns-in_err-length
returns-in_err-length c =
    let read = c.in_ok-read_for.ensures in
    let b = begun c.args.image.now c.args.tickets.now (length c.args.answers.now) c.count_tickets-count.ensures.answer
    (read.answer, read.words) in
    absurd (never_short c.args.operator c.args.answers.now c.args.output.now b refl c.run_checked-accepted.ensures.answer
    c.requires.room c.write_checked.new.output c.in_err-length.field-0.0 c.in_err-length.ensures.promise)

pub overflow_cast-result : goal.overflow_cast-result
overflow_cast-result c =
    let read = c.in_ok-read_for.ensures in
    let b = begun c.args.image.now c.args.tickets.now (length c.args.answers.now) c.count_tickets-count.ensures.answer
    (read.answer, read.words) in
    let fit = counts_fit c.args.operator c.args.answers.now c.args.output.now b refl c.run_checked-accepted.ensures.answer in
    record { fits = omega (arith, fit.0, fit.1) }

pub returns : goal.returns
returns c =
    let read = c.in_ok-read_for.ensures in
    let b = begun c.args.image.now c.args.tickets.now (length c.args.answers.now) c.count_tickets-count.ensures.answer
    (read.answer, read.words) in
    record {
      promise = list_done c.args.operator c.args.answers.now c.args.output.now b refl c.run_checked-accepted.ensures.answer
          c.requires.room c.write_checked.new.output c.in_ok-length.length c.in_ok-length.ensures.promise;
    }
