-- `put_lines`: the invariant is `Gathered`, that the lines of the facts so far are gathered. Assumes nothing.
use Rattle.print_facts.proofs.Gathering.{Gathered}
use Rattle.print_facts.proofs.lines.put_lines.Given as goal

abbrev pub invariant-loop-word : goal.invariant-loop-word
invariant-loop-word l = Gathered l.table l.word-index l.at l.out
