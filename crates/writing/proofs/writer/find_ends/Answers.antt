use native.Mathlib.Omega.{arith}
use Rattle.contents.specs.FormOf.{form_of}
use Rattle.writing.proofs.EndsFound.{found_start, found_more, found_all}
use Rattle.writing.proofs.writer.find_ends.Goals as goal

pub loop-done-init : goal.loop-done-init
loop-done-init c = found_start _ _ c.requires.table.writable _ c.requires.none

pub overflow_add-k : goal.overflow_add-k
overflow_add-k c = omega (arith, c.loop-done-test.true, c.args.form.legible.few)

pub count_to-to-requires-clause-table : goal.count_to-to-requires-clause-table
count_to-to-requires-clause-table c = c.requires.table.writable

pub count_to-to-requires-clause-kind : goal.count_to-to-requires-clause-kind
count_to-to-requires-clause-kind c = omega (arith, c.loop-done-test.true, c.args.form.legible.few)

pub overflow_cast-ends : goal.overflow_cast-ends
overflow_cast-ends c = omega (arith, c.loop-done-test.true, c.args.form.legible.few)

pub offset_bounds-ends-k : goal.offset_bounds-ends-k
offset_bounds-ends-k c = omega (arith, c.loop-done-test.true, c.args.form.legible.few)

pub bounds-ends-k : goal.bounds-ends-k
bounds-ends-k c = omega (arith, c.loop-done-test.true, c.requires.room, c.loop-done.invariant.long)

pub loop-done-preserved : goal.loop-done-preserved
loop-done-preserved c =
    found_more _ _ c.loop-done.invariant (omega (arith, c.loop-done-test.true, c.requires.room)) _ c.count_to-to.ensures.answer

pub returns : goal.returns
returns c =
    record { ends = found_all _ _ c.loop-done.invariant (form_of c.args.form) c.loop-done-test.false c.requires.room }
