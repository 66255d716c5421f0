-- `Spans::is_among` meets its contract. The loop's invariant: the words before the place that is looked at are below the word, if
-- its span has any. Assumes nothing.
use Prim.Native.Nat.{◌+◌, ◌<◌}
use lib.ListN.{length}
use Rattle.spans.specs.Spans.{span_of, Before, FromSpan}
use Rattle.spans.proofs.Spans.is_among.Given as goal

abbrev pub invariant-loop-next : goal.invariant-loop-next
invariant-loop-next l =
    (W : FromSpan l.self.table.now (span_of l.word) l.words)
    × (0 < length l.words → Before l.self.table.now (W.place + l.next-index) l.word)
