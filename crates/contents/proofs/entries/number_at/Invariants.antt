-- `entries::number_at`. The loop's invariant is `Summed`: the value of the bytes passed, from the last on. Assumes nothing.
use Rattle.contents.proofs.NumberRead.{Summed}
use Rattle.contents.proofs.entries.number_at.Given as goal

abbrev pub invariant-loop-left : goal.invariant-loop-left
invariant-loop-left l = Summed l.image l.place l.size l.left l.value
