-- `term_length`, by the term. Assumes nothing.
use native.Mathlib.Omega.{arith}
use Rattle.terms.proofs.DigitCount.{count_few}
use Rattle.terms.proofs.measure.term_length.Goals as goal

pub overflow_add-result : goal.overflow_add-result
overflow_add-result c =
    omega (arith, c.decimal_length.ensures.answer, count_few c.in-Literal.n)
