-- `Spans::is_stamped` meets its contract. The loop's invariant: the span's words before the next have second ids with the stamp. Assumes nothing.
use Prim.Native.Nat.{◌+◌}
use Rattle.spans.specs.Spans.{FromSpan}
use Rattle.spans.proofs.Comparing.{Comparing}
use Rattle.spans.proofs.Spans.is_stamped.Given as goal

abbrev pub invariant-loop-word : goal.invariant-loop-word
invariant-loop-word l = (W : FromSpan l.self.table.now l.span l.words)
    × Comparing l.self.table.now l.stamps l.stamp l.span W.place (W.place + l.word-index)
