-- `ask_between`: read, then asked or refused there. Assumes nothing.
use mathlib.Core.Path.{refl, sym}
use Rattle.std.specs.Prelude.{Ok, Err}
use Rattle.std.proofs.lemmas.Result.{err_from_is_err_and}
use Rattle.exchange.proofs.Between.{read_table}
use Rattle.host_preview.proofs.HostPreviewWays.{ask_done}
use Rattle.host_preview.proofs.ask_between.Goals as goal

pub ask_checked-requires : goal.ask_checked-requires
ask_checked-requires c =
    record { table = read_table c.args.image.now 0 c.in_ok-read.ensures.promise.0 refl c.in_ok-read.ensures.promise.1 }

pub returns-in_err-asked : goal.returns-in_err-asked
returns-in_err-asked c =
    let p = err_from_is_err_and c.from_residual-in_err-asked.result c.from_residual-in_err-asked.ensures.1 in
    rw (p.1, p.2) (record {
      promise = ask_done c.args.image.now c.args.ticket.now c.args.added.now c.args.removed.now
          (sym c.in_ok-read.ensures.promise.0) c.in_ok-read.ensures.promise.1 (Err c.in_err-asked.field-0.0)
          c.in_err-asked.ensures.answer;
    })

pub returns : goal.returns
returns c =
    record {
      promise = ask_done c.args.image.now c.args.ticket.now c.args.added.now c.args.removed.now
          (sym c.in_ok-read.ensures.promise.0) c.in_ok-read.ensures.promise.1 (Ok c.in_ok-asked.asked)
          c.in_ok-asked.ensures.answer;
    }
