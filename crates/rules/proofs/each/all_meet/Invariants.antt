-- `each::all_meet` meets its contract. The loop's invariant: the test gave true for the words of the kind before the one at hand.
-- Assumes nothing.
use Rattle.rules.proofs.Passing.{Passing}
use Rattle.rules.proofs.each.all_meet.Given as goal

abbrev pub invariant-loop-word : goal.invariant-loop-word
invariant-loop-word g l = Passing l.spans.table.now l.k (goal.F-post g l.test) l.words l.word-index
