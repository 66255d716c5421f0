-- `Spans::carries_over` meets its contract. The loop's invariant: the words of kind k before the next are carried over, and the
-- stamps are those of the span of the last one. Assumes nothing.
use Rattle.spans.proofs.Carrying.{Carrying}
use Rattle.spans.proofs.Spans.carries_over.Given as goal

abbrev pub invariant-loop-word : goal.invariant-loop-word
invariant-loop-word l = Carrying l.self.table.now l.words l.stamps l.k l.m l.l l.last l.word-index
