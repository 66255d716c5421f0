-- `put_count`: a table has no more facts than words, at most 2,048. Assumes nothing.
use mathlib.Core.Path.{subst}
use native.Mathlib.Omega.{arith}
use lib.ListN.{take}
use Rattle.rdfs.specs.Numbers.{product}
use Rattle.table.proofs.Filled.{filled_within}
use Rattle.text.specs.Text.{Number}
use Rattle.text.proofs.PutText.{puts_start}
use Rattle.report.proofs.lines.put_count.Goals as goal

pub overflow_cast-count : goal.overflow_cast-count
overflow_cast-count c =
    record {
      fits = omega (
        arith,
        c.count_facts-count.ensures.answer,
        filled_within product c.args.table.now c.requires.table.laid,
        c.requires.table.fits,
      );
    }

pub returns-clause-text : goal.returns-clause-text
returns-clause-text c =
    subst (λ n. Number n 10 (take c.put_short.result c.put_short.new.out)) c.count_facts-count.ensures.answer
    (puts_start c.put_short.ensures.text)
