use native.Mathlib.Omega.{arith}
use mathlib.Core.Path.{sym, subst}
use Prim.Native.Nat.{◌+◌}
use lib.ListN.{length-set}
use Rattle.contents.specs.FormOf.{form_of}
use Rattle.writing.proofs.EndsLaws.{measured_within, measured_fits}
use Rattle.writing.proofs.PutParts.{Entered, entered_start, entered_length, entered_more, entered_done}
use Rattle.writing.proofs.writer.put_contents.Goals as goal

pub overflow_cast-output : goal.overflow_cast-output
overflow_cast-output c = omega (arith, c.requires.ends.form.edition)

pub bounds-output-0 : goal.bounds-output-0
bounds-output-0 c = omega (arith, c.requires.room)

pub overflow_cast-output-2 : goal.overflow_cast-output-2
overflow_cast-output-2 c = omega (arith, c.args.form.legible.few)

pub bounds-output-1 : goal.bounds-output-1
bounds-output-1 c = simp length-set (omega (arith, c.requires.room))

pub loop-done-init : goal.loop-done-init
loop-done-init c =
    subst (Entered (form_of c.args.form) c.args.ends.now _ _ 0) (sym c.first_body-start.ensures.answer)
    (entered_start (form_of c.args.form) c.args.ends.now c.args.output.now (omega (arith, c.requires.room)))

pub overflow_add-k : goal.overflow_add-k
overflow_add-k c = omega (arith, c.loop-done-test.true, c.args.form.legible.few)

pub count_of-count-requires-clause-kind : goal.count_of-count-requires-clause-kind
count_of-count-requires-clause-kind c = (omega arith, omega (arith, c.loop-done-test.true, c.requires.ends.places))

pub count_of-count-requires-clause-order : goal.count_of-count-requires-clause-order
count_of-count-requires-clause-order c =
    c.requires.ends.rising (c.loop-done.done + 1) (omega arith) (omega (arith, c.loop-done-test.true))

pub put_entry-requires : goal.put_entry-requires
put_entry-requires c =
    record {
      entry = let long = entered_length _ _ c.loop-done.invariant (simp length-set c.requires.room) in
          record {
            entry = record {
              some = omega arith;
              most = omega (arith, c.loop-done-test.true);
              within = omega (arith, simp length-set at long, c.requires.room);
            };
            start_fits = omega (arith, measured_within _ _ c.loop-done.invariant.measured, c.requires.ends.long);
            count_fits = omega (
              arith,
              c.count_of-count.ensures.answer,
              c.requires.ends.few (c.loop-done.done + 1)
                  (omega (arith, c.loop-done-test.true)),
            );
          };
    }

pub overflow_mul-start : goal.overflow_mul-start
overflow_mul-start c =
    omega (
      arith,
      measured_fits _ _ c.loop-done.invariant.measured c.requires.ends c.loop-done-test.true _ _
          c.fact_size.ensures.answer c.count_of-count.ensures.answer,
    )

pub overflow_add-start : goal.overflow_add-start
overflow_add-start c =
    omega (
      arith,
      measured_fits _ _ c.loop-done.invariant.measured c.requires.ends c.loop-done-test.true _ _
          c.fact_size.ensures.answer c.count_of-count.ensures.answer,
    )

pub loop-done-preserved : goal.loop-done-preserved
loop-done-preserved c =
    entered_more _ _ c.loop-done.invariant c.loop-done-test.true _ _ c.fact_size.ensures.answer
    c.count_of-count.ensures.answer _ c.put_entry.ensures.bytes

pub returns : goal.returns
returns c =
    record { bytes = entered_done _ _ c.args.output.now c.loop-done.invariant c.loop-done-test.false }
