-- `Spans::all_inherited` meets its contract. The loop's invariant: the values before `at` are inherited, and `group` is where
-- those with the subject and object of the last one start. The measure is the number of values left. Assumes nothing.
use Rattle.spans.proofs.Inheriting.{Inheriting}
use Rattle.spans.proofs.Spans.all_inherited.Given as goal

abbrev pub invariant-loop-at : goal.invariant-loop-at
invariant-loop-at l = Inheriting l.self.table.now l.end l.at l.group
