-- `write_triples`: a table that the check lets pass is consistent. Assumes nothing.
use mathlib.Core.Path.{sym}
use Rattle.rdfs.specs.Numbers.{product}
use Rattle.rdfs.proofs.Tickets.Steps.{checked_table}
use Rattle.triples.proofs.write_triples.Goals as goal

pub write_checked-requires : goal.write_checked-requires
write_checked-requires c =
    record { table = checked_table product c.args.table.now (sym c.in_ok-check.ensures.answer) }
