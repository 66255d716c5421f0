use native.Mathlib.Omega.{arith}
use Rattle.terms.proofs.DigitCount.{counted_start, counted_more, counted_all}
use Rattle.terms.proofs.measure.decimal_length.Goals as goal

pub loop-rest-init : goal.loop-rest-init
loop-rest-init c = counted_start _

pub overflow_add-count : goal.overflow_add-count
overflow_add-count c = omega (arith, c.loop-rest.invariant.fits, c.ranges.n.fits)

pub loop-rest-preserved : goal.loop-rest-preserved
loop-rest-preserved c = counted_more c.loop-rest.invariant c.loop-rest-test.true

pub returns : goal.returns
returns c = record { answer = counted_all c.loop-rest.invariant c.loop-rest-test.false }
