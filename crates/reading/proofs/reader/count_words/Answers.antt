use native.Mathlib.Omega.{arith}
use Rattle.contents.proofs.FormBounds.{field_small}
use Rattle.contents.proofs.ImagePlaces.{contents_entry}
use Rattle.reading.proofs.Filling.{passed_start, passed_more, passed_all}
use Rattle.reading.proofs.reader.count_words.Goals as goal

pub loop-done-init : goal.loop-done-init
loop-done-init c = passed_start _ _

pub overflow_add-k : goal.overflow_add-k
overflow_add-k c = omega (arith, c.loop-done-test.true, c.args.form.legible.few)

pub count_at-total-requires : goal.count_at-total-requires
count_at-total-requires c =
    record { entry = contents_entry c.requires.contents _ (omega arith) (omega (arith, c.loop-done-test.true)) }

pub overflow_add-total : goal.overflow_add-total
overflow_add-total c =
    omega (
      arith,
      c.loop-done.invariant.small,
      c.loop-done.invariant.within,
      c.args.form.legible.few,
      c.count_at-total.ensures.bound,
      field_small c.args.form.legible,
    )

pub loop-done-preserved : goal.loop-done-preserved
loop-done-preserved c =
    passed_more c.loop-done.invariant c.args.form.legible c.loop-done-test.true _ c.count_at-total.ensures.answer
    c.count_at-total.ensures.bound

pub returns : goal.returns
returns c = record { answer = passed_all c.loop-done.invariant c.loop-done-test.false }
