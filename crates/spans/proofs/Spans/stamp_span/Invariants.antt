-- `Spans::stamp_span` meets its contract. The loop's invariant: the second ids of the span's words before the next are stamped, and
-- no others. Assumes nothing.
use Prim.Native.Nat.{◌+◌}
use Rattle.spans.specs.Spans.{FromSpan}
use Rattle.spans.proofs.Stamping.{Stamping}
use Rattle.spans.proofs.Spans.stamp_span.Given as goal

abbrev pub invariant-loop-word : goal.invariant-loop-word
invariant-loop-word l = (W : FromSpan l.self.table.now l.span l.words)
    × Stamping l.self.table.now l.stamps l.span W.place (W.place + l.word-index)
