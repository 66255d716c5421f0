use native.Mathlib.Omega.{arith}
use Rattle.contents.proofs.ImagePlaces.{fact_within}
use Rattle.reading.proofs.Filling.{stored_start, stored_more, stored_end}
use Rattle.reading.proofs.reader.fill_body.Goals as goal

pub loop-word-init : goal.loop-word-init
loop-word-init c = stored_start _ _ _ _ _

pub word_at-requires : goal.word_at-requires
word_at-requires c =
    record { fact = fact_within c.requires _ _ c.loop-word.invariant.at c.loop-word-test.true }

pub overflow_add-at : goal.overflow_add-at
overflow_add-at c =
    let next = fact_within c.requires _ _ c.loop-word.invariant.at c.loop-word-test.true in
    omega (arith, c.fact_size-size.ensures.answer, next.within)

pub loop-word-preserved : goal.loop-word-preserved
loop-word-preserved c =
    stored_more _ _ _ _ c.loop-word.invariant c.loop-word-test.true _ c.word_at.ensures.answer _
    c.fact_size-size.ensures.answer

pub returns : goal.returns
returns c = record { words = stored_end _ _ _ _ c.loop-word.invariant c.loop-word-test.false }
