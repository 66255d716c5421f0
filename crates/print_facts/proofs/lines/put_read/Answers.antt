-- `put_read`: the bytes read are all of the image, or more than any has. Assumes nothing.
use mathlib.Core.Path.{sym}
use lib.Seq.{length-take-le}
use Rattle.print_facts.proofs.Read.{whole_printed, none_printed}
use borrow.Author.Rules.{rules}
use Rattle.print_facts.proofs.lines.put_read.Goals as goal

pub returns-then-count-gt-LONGEST-clause-lines : goal.returns-then-count-gt-LONGEST-clause-lines
returns-then-count-gt-LONGEST-clause-lines c = none_printed c.requires.lent (search rules)

pub slice_bounds-put_facts-end : goal.slice_bounds-put_facts-end
slice_bounds-put_facts-end c =
    sym (length-take-le _ c.args.buffer.now
    c.requires.lent.within)

pub put_facts-requires : goal.put_facts-requires
put_facts-requires c = record { room = c.requires.lent.room }

pub returns-clause-bound : goal.returns-clause-bound
returns-clause-bound c = c.put_facts.ensures.printed.within

pub returns-clause-lines : goal.returns-clause-lines
returns-clause-lines c = whole_printed c.requires.lent (search rules)
    c.put_facts.ensures.printed
