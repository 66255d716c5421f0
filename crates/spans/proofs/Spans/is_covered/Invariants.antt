-- `Spans::is_covered` meets its contract. The loop's invariant: the words of the span before the next link are covered, and no
-- word from the next one's on stands before `place`. Assumes nothing.
use Prim.Native.Nat.{◌+◌}
use Rattle.spans.specs.Spans.{FromSpan}
use Rattle.spans.proofs.Covering.{Covering}
use Rattle.spans.proofs.Spans.is_covered.Given as goal

abbrev pub invariant-loop-link : goal.invariant-loop-link
invariant-loop-link l =
    (W : FromSpan l.self.table.now l.span l.links)
    × Covering l.self.table.now l.span W.place l.base (W.place + l.link-index) l.place
