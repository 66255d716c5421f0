-- `Seen::flag_lines`. The loop's invariant is `Judging`: the lines in front of the rest are inside the profile, and their ids are
-- flagged. The measure is the length of the rest. Assumes nothing.
use lib.ListN.{length}
use Rattle.triples.proofs.LinesLeft.{Judging}
use Rattle.triples.proofs.seen.Seen.flag_lines.Given as goal

abbrev pub invariant-loop-line : goal.invariant-loop-line
invariant-loop-line l = Judging l.text l.rest l.initial.self l.self

abbrev pub decreases-loop-line : goal.decreases-loop-line
decreases-loop-line l = length l.rest
