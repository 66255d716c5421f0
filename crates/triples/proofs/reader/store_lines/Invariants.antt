-- `reader::store_lines`. The loop's invariant: the lines left are inside the profile, and their words are still to be stored. The
-- measure is the length of the rest. Assumes nothing.
use lib.ListN.{length}
use Rattle.triples.proofs.LinesStored.{LinesPending}
use Rattle.triples.proofs.reader.store_lines.Given as goal

abbrev pub invariant-loop-line : goal.invariant-loop-line
invariant-loop-line l = LinesPending l.initial.table l.text l.table l.rest l.total

abbrev pub decreases-loop-line : goal.decreases-loop-line
decreases-loop-line l = length l.rest
