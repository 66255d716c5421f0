-- `merge::place_from` meets its contract. The loop's invariant: the words before `at` are below the word. The measure is the
-- number of places left. Assumes nothing.
use Rattle.spans.specs.Spans.{NotPast}
use Rattle.spans.proofs.merge.place_from.Given as goal

abbrev pub invariant-loop-at : goal.invariant-loop-at
invariant-loop-at l = NotPast l.table l.at l.word
