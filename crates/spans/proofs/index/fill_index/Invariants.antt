-- `index::fill_index` meets its contract. The loop's invariant: the words from `at` on are entered. The measure is `at`. Assumes
-- nothing.
use Rattle.spans.proofs.Entered.{Entered}
use Rattle.spans.proofs.index.fill_index.Given as goal

abbrev pub invariant-loop-at : goal.invariant-loop-at
invariant-loop-at l = Entered l.table l.index l.at
