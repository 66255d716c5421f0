-- `id_length`, by the id. Assumes nothing.
use native.Mathlib.Omega.{arith}
use Rattle.terms.proofs.DigitCount.{count_few}
use Rattle.terms.proofs.measure.id_length.Goals as goal

pub overflow_add-result : goal.overflow_add-result
overflow_add-result c = omega (arith, c.decimal_length.ensures.answer, count_few c.args.n, c.ranges.n.fits)
