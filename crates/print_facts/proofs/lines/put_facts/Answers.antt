-- `put_facts`: the table's words are those that reading leaves. Assumes nothing.
use mathlib.Core.Path.{subst, ap, ◌∙◌}
use Rattle.rdfs.specs.Words.{filled}
use Rattle.print_facts.specs.FactLines.{WordsPrinted}
use Rattle.print_facts.proofs.Read.{filled_read}
use Rattle.print_facts.proofs.lines.put_facts.Goals as goal

pub returns : goal.returns
returns c =
    record {
      printed = subst (λ l. WordsPrinted l c.put_lines.result c.put_lines.new.out) (ap filled c.read-outcome.ensures.promise.1
          ∙ filled_read c.args.image.now) c.put_lines.ensures.printed;
    }
