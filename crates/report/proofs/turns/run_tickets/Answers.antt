-- `run_tickets`: the lines of the bytes read fit the buffer, and they are all of the chunk or fewer. Assumes nothing.
use mathlib.Core.Path.{sym}
use lib.Seq.{length-take-le}
use Rattle.report.proofs.Chunk.{lines_fit, shows_last, shows_more}
use borrow.Author.Rules.{rules}
use Rattle.report.proofs.turns.run_tickets.Goals as goal

pub slice_bounds-put_lines-end : goal.slice_bounds-put_lines-end
slice_bounds-put_lines-end g c = sym (length-take-le c.args.count c.args.bytes.now c.requires.bytes)

pub put_lines-length-requires : goal.put_lines-length-requires
put_lines-length-requires g c =
    let fit = lines_fit c.args.bytes.now c.args.out.now c.args.count c.requires.bytes
    c.requires.lent.sized.room in record {
      table = c.requires.lent.table;
      room = fit;
    }

pub returns-then-count-bytes : goal.returns-then-count-bytes
returns-then-count-bytes g c =
    record { turn = shows_more c.args.bytes.now c.args.count c.put_lines-length.ensures.printed (search rules) }

pub returns : goal.returns
returns g c =
    record { turn = shows_last c.args.bytes.now c.args.count c.put_lines-length.ensures.printed (search rules) }
