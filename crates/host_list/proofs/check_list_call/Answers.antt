-- `check_list_call`: reading and 14; then the list on the words that were read, and 13 by the length of its image. Assumes nothing.
use mathlib.Core.Path.{refl}
use Rattle.std.proofs.lemmas.Result.{err_from_is_err_and}
use Rattle.host_list.proofs.HostListWays.{not_none, begun, begun_stops, begun_table, left_table, short_refusal, fitting}
use Rattle.host_list.proofs.check_list_call.Goals as goal

pub returns-in_err-read_for : goal.returns-in_err-read_for
returns-in_err-read_for c =
    let p = err_from_is_err_and c.from_residual.result c.from_residual.ensures.1 in
    let read = c.in_err-read_for in
    let b = begun c.args.image.now c.args.tickets.now c.args.room c.count_tickets.ensures.answer
    (read.ensures.answer, read.ensures.words) in
    rw (p.1, p.2) (record { answer = begun_stops c.args.operator b (not_none read.field-0.0) c.args.space })

pub run_unanswered-requires : goal.run_unanswered-requires
run_unanswered-requires c =
    let read = c.in_ok-read_for.ensures in
    let b = begun c.args.image.now c.args.tickets.now c.args.room c.count_tickets.ensures.answer (read.answer, read.words) in
    record { table = begun_table b refl }

pub length_checked-requires : goal.length_checked-requires
length_checked-requires c =
    let read = c.in_ok-read_for.ensures in
    let b = begun c.args.image.now c.args.tickets.now c.args.room c.count_tickets.ensures.answer (read.answer, read.words) in
    record { table = left_table c.args.operator b refl c.run_unanswered.ensures.words }

pub returns-then-space-length_checked : goal.returns-then-space-length_checked
returns-then-space-length_checked c =
    let read = c.in_ok-read_for.ensures in
    let b = begun c.args.image.now c.args.tickets.now c.args.room c.count_tickets.ensures.answer (read.answer, read.words) in
    record {
      answer = short_refusal c.args.operator b refl c.run_unanswered.ensures.words c.length_checked.result c.args.space
          c.length_checked.ensures.answer c.if-space-length_checked.true;
    }

pub returns : goal.returns
returns c =
    let read = c.in_ok-read_for.ensures in
    let b = begun c.args.image.now c.args.tickets.now c.args.room c.count_tickets.ensures.answer (read.answer, read.words) in
    record {
      answer = fitting c.args.operator b refl c.run_unanswered.ensures.words c.length_checked.result c.args.space
          c.length_checked.ensures.answer c.if-space-length_checked.false;
    }
