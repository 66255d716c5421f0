-- `apply_between`: each way through it, in the order of its steps. Assumes nothing.
use native.Mathlib.Omega.{arith}
use mathlib.Core.Path.{refl, sym}
use Rattle.std.specs.Prelude.{Ok, Err}
use Rattle.std.proofs.lemmas.Result.{err_from_is_err_and}
use Rattle.table.proofs.RefusalNumbers.{number_some}
use Rattle.exchange.proofs.Between.{read_table}
use Rattle.host_ticket.proofs.HostWays.{left_table, applied_from, way_unread, way_unapplied, way_unwritten, way_done}
use Rattle.host_ticket.proofs.apply_between.Goals as goal

pub returns-in_err-read : goal.returns-in_err-read
returns-in_err-read c =
    let p = err_from_is_err_and c.from_residual.result c.from_residual.ensures.1 in
    rw (p.1, p.2) (record {
      promise = way_unread c.args.image.now c.args.output.now _ c.in_err-read.field-0.0 c.in_err-read.ensures.promise.0;
    })

pub apply_as-requires : goal.apply_as-requires
apply_as-requires c =
    record { table = read_table c.args.image.now 0 c.in_ok-read.ensures.promise.0 refl c.in_ok-read.ensures.promise.1 }

pub returns-in_err-applied : goal.returns-in_err-applied
returns-in_err-applied c =
    let p = err_from_is_err_and c.from_residual-in_err-applied.result c.from_residual-in_err-applied.ensures.1 in
    let refusal = c.in_err-applied.field-0.0 in
    rw (p.1, p.2) (record {
      promise = way_unapplied c.args.image.now c.args.output.now _ (sym c.in_ok-read.ensures.promise.0) refusal
          (applied_from c.args.operator c.args.image.now c.args.ticket.now c.in_ok-read.ensures.promise.1 (Err refusal)
          c.in_err-applied.ensures.answer);
    })

pub write_checked-requires : goal.write_checked-requires
write_checked-requires c =
    record {
      table = left_table c.args.operator c.args.ticket.now
          (read_table c.args.image.now 0 c.in_ok-read.ensures.promise.0 refl c.in_ok-read.ensures.promise.1)
          (Ok c.in_ok-applied.applied) c.in_ok-applied.ensures.answer;
    }

pub returns-in_err-length : goal.returns-in_err-length
returns-in_err-length c =
    let p = err_from_is_err_and c.from_residual-in_err-length.result c.from_residual-in_err-length.ensures.1 in
    let refusal = c.in_err-length.field-0.0 in
    rw (p.1, p.2) (record {
      promise = way_unwritten c.args.image.now c.args.output.now _ (sym c.in_ok-read.ensures.promise.0) c.in_ok-applied.applied
          (applied_from c.args.operator c.args.image.now c.args.ticket.now c.in_ok-read.ensures.promise.1
          (Ok c.in_ok-applied.applied) c.in_ok-applied.ensures.answer) (Err refusal) c.write_checked.new.output
          c.in_err-length.ensures.promise (λ z. omega (arith, z, number_some refusal));
    })

pub returns : goal.returns
returns c =
    record {
      promise = way_done c.args.image.now c.args.output.now _ (sym c.in_ok-read.ensures.promise.0) c.in_ok-applied.applied
          (applied_from c.args.operator c.args.image.now c.args.ticket.now c.in_ok-read.ensures.promise.1
          (Ok c.in_ok-applied.applied) c.in_ok-applied.ensures.answer) (Ok c.in_ok-length.length) c.write_checked.new.output
          c.in_ok-length.ensures.promise refl;
    }
