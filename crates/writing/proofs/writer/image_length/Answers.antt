use native.Mathlib.Omega.{arith}
use mathlib.Core.Path.{sym, subst}
use Prim.Native.Nat.{◌+◌}
use Rattle.contents.specs.FormOf.{form_of}
use Rattle.writing.proofs.EndsLaws.{Measured, measured_start, measured_more, measured_fits, measured_all}
use Rattle.writing.proofs.writer.image_length.Goals as goal

pub loop-done-init : goal.loop-done-init
loop-done-init c =
    subst (Measured (form_of c.args.form) c.args.ends.now 0) (sym c.first_body-length.ensures.answer)
    (measured_start (form_of c.args.form) c.args.ends.now)

pub overflow_add-k : goal.overflow_add-k
overflow_add-k c = omega (arith, c.loop-done-test.true, c.args.form.legible.few)

pub count_of-requires-clause-kind : goal.count_of-requires-clause-kind
count_of-requires-clause-kind c = (omega arith, omega (arith, c.loop-done-test.true, c.requires.ends.places))

pub count_of-requires-clause-order : goal.count_of-requires-clause-order
count_of-requires-clause-order c =
    c.requires.ends.rising (c.loop-done.done + 1) (omega arith) (omega (arith, c.loop-done-test.true))

pub overflow_mul-length : goal.overflow_mul-length
overflow_mul-length c =
    omega (
      arith,
      measured_fits _ _ c.loop-done.invariant c.requires.ends c.loop-done-test.true _ _ c.fact_size.ensures.answer
          c.count_of.ensures.answer,
    )

pub overflow_add-length : goal.overflow_add-length
overflow_add-length c =
    omega (
      arith,
      measured_fits _ _ c.loop-done.invariant c.requires.ends c.loop-done-test.true _ _ c.fact_size.ensures.answer
          c.count_of.ensures.answer,
    )

pub loop-done-preserved : goal.loop-done-preserved
loop-done-preserved c =
    measured_more _ _ c.loop-done.invariant c.loop-done-test.true _ _ c.fact_size.ensures.answer
    c.count_of.ensures.answer

pub returns : goal.returns
returns c = record { answer = measured_all _ _ c.loop-done.invariant c.loop-done-test.false }
