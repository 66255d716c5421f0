-- `besides::put_besides`. The loop's invariant: the words found are the first ones of the run. Assumes nothing.
use Rattle.differences.proofs.Matching.{Matching}
use Rattle.differences.proofs.besides.put_besides.Given as goal

abbrev pub invariant-loop-slot : goal.invariant-loop-slot
invariant-loop-slot l = Matching l.words l.others l.run l.slot-index l.from.place l.from.past
