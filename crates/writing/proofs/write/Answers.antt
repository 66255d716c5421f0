-- `write`: a table that the check refuses is refused so; any other is consistent. Assumes nothing.
use mathlib.Core.Path.{sym}
use Rattle.std.proofs.lemmas.Result.{err_from_is_err_and}
use Rattle.rdfs.specs.Numbers.{product}
use Rattle.rdfs.proofs.Tickets.Steps.{checked_table}
use Rattle.writing.proofs.WriteCall.{write_refused}
use Rattle.writing.proofs.write.Goals as goal

pub returns-in_err-check : goal.returns-in_err-check
returns-in_err-check c =
    let p = err_from_is_err_and c.from_residual.result c.from_residual.ensures.1 in
    rw (p.1, p.2) (record {
      promise = write_refused c.args.table.now c.args.output.now c.in_err-check.field-0.0 c.in_err-check.ensures.answer;
    })

pub write_checked-requires : goal.write_checked-requires
write_checked-requires c = record { table = checked_table product c.args.table.now (sym c.in_ok-check.ensures.answer) }
