-- `to_text`: refused by reading, else as writing does. Assumes nothing.
use mathlib.Core.Path.{refl}
use Rattle.std.proofs.lemmas.Result.{err_from_is_err_and}
use Rattle.exchange.proofs.Between.{read_table}
use Rattle.exchange.proofs.ExchangeWays.{text_unread}
use Rattle.exchange.proofs.to_text.Goals as goal

pub returns-in_err-read : goal.returns-in_err-read
returns-in_err-read c =
    let p = err_from_is_err_and c.from_residual.result c.from_residual.ensures.1 in
    rw (p.1, p.2)
    (record {
      promise = text_unread c.args.image.now c.args.output.now _ c.in_err-read.ensures.promise.0 c.in_err-read.field-0.0 refl;
    })

pub write_checked-requires : goal.write_checked-requires
write_checked-requires c =
    let read = c.in_ok-read.ensures.promise in record { table = read_table c.args.image.now 0 read.0 refl read.1 }
