-- `besides::next_besides`. The loop's invariant: no word before `place` is new, and the others passed are below it. Assumes
-- nothing.
use Rattle.differences.proofs.Searching.{Searching}
use Rattle.differences.proofs.besides.next_besides.Given as goal

abbrev pub invariant-loop-past : goal.invariant-loop-past
invariant-loop-past l = Searching l.words l.others l.fn.from.place l.fn.from.past l.place l.past
