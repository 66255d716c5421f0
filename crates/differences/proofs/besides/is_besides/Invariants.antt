-- `besides::is_besides`. The loop's invariant: the words found are the first ones of the run. Assumes nothing.
use Rattle.differences.proofs.Matching.{Matching}
use Rattle.differences.proofs.besides.is_besides.Given as goal

abbrev pub invariant-loop-word : goal.invariant-loop-word
invariant-loop-word l = Matching l.words l.others l.run l.word-index l.from.place l.from.past
