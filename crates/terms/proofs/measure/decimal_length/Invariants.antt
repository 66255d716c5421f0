-- `decimal_length`. The loop's invariant is `Counted`. The measure is what is left of the number. Assumes nothing.
use Rattle.terms.proofs.DigitCount.{Counted}
use Rattle.terms.proofs.measure.decimal_length.Given as goal

abbrev pub invariant-loop-rest : goal.invariant-loop-rest
invariant-loop-rest l = Counted l.n l.rest l.count

abbrev pub decreases-loop-rest : goal.decreases-loop-rest
decreases-loop-rest l = l.rest
