use native.Mathlib.Omega.{arith}
use mathlib.Core.Path.{sym, subst}
use Rattle.table.proofs.TestAnswers.{decides_true, decides_false}
use Rattle.contents.specs.FormOf.{form_of}
use Rattle.contents.proofs.Deciding.{decides_as, decides_eq}
use Rattle.contents.proofs.FormBounds.{first_small, body_small}
use Rattle.contents.proofs.Linking.{Walk, walk_start, walk_more, walk_wrong, walk_end}
use Rattle.contents.proofs.entries.is_chained.Goals as goal

pub returns-then-not-is_entry : goal.returns-then-not-is_entry
returns-then-not-is_entry c =
    record {
      answer = walk_wrong c.loop-done.invariant c.loop-done-test.true (decides_false c.is_entry.result
          c.is_entry.ensures.answer (c.if-not-is_entry.true));
    }

pub overflow_mul-start : goal.overflow_mul-start
overflow_mul-start c =
    omega (
      arith,
      body_small c.args.form.legible c.fact_size.result c.count_at.result c.fact_size.ensures.bound
          c.count_at.ensures.bound,
    )

pub overflow_add-start : goal.overflow_add-start
overflow_add-start c =
    omega (
      arith,
      c.loop-done.invariant.small,
      c.loop-done.invariant.within,
      c.args.form.legible.few,
      first_small c.args.form.legible,
      body_small c.args.form.legible c.fact_size.result c.count_at.result c.fact_size.ensures.bound
          c.count_at.ensures.bound,
    )

pub loop-done-preserved : goal.loop-done-preserved
loop-done-preserved c =
    walk_more c.loop-done.invariant c.args.form.legible _ _ c.fact_size.ensures.answer c.fact_size.ensures.bound
    c.count_at.ensures.answer c.count_at.ensures.bound c.loop-done-test.true (decides_true c.is_entry.result
    c.is_entry.ensures.answer (c.if-not-is_entry.false))
